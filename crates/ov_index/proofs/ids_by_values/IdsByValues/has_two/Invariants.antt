use Rattle.std.proofs.Common.{◌≡◌}
use Rattle.ov_index.specs.Collecting.{has_two}
use Rattle.ov_index.proofs.ids_by_values.IdsByValues.has_two.Given as goal

abbrev pub invariant-loop-values : goal.invariant-loop-values
invariant-loop-values l = has_two l._values-iterator ≡ has_two l.initial._values-iterator
