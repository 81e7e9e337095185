use Rattle.std.proofs.Common.{◌≡◌}
use Rattle.std.specs.Cmp.Lexicographic.{pointwise}
use Rattle.std.specs.Ordering.{eq_by_cmp}
use Rattle.ov_specs.specs.values.Value.{datum_cmp}
use Rattle.ov_rows.proofs.value_iter.are_same.Given as goal

abbrev pub invariant-loop-datum : goal.invariant-loop-datum
invariant-loop-datum l = pointwise (eq_by_cmp datum_cmp) l.fn.mine l.fn.others ≡ pointwise (eq_by_cmp datum_cmp) l.datum-iterator l.rest
