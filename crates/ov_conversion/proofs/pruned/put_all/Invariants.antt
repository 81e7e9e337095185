use Rattle.std.proofs.Common.{◌≡◌}
use Rattle.ov_specs.specs.operations.GivenRow.{with_values}
use Rattle.ov_conversion.proofs.pruned.put_all.Given as goal

abbrev pub invariant-loop-key : goal.invariant-loop-key
invariant-loop-key l = with_values l.key-iterator.rest.items l.rows ≡ with_values l.initial.key-iterator.rest.items l.fn.rows
