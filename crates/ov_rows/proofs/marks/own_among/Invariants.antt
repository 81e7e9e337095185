use Rattle.std.proofs.Common.{◌≡◌, ◌++◌}
use Rattle.std.specs.Vec.Iter.{into_iter_items}
use Rattle.ov_rows.specs.Spread.{own_among}
use Rattle.ov_rows.proofs.marks.own_among.Given as goal

abbrev pub invariant-loop-datum : goal.invariant-loop-datum
invariant-loop-datum l = l.own.items ++ own_among l.left (into_iter_items l.datum-iterator) ≡ own_among l.fn.marks l.fn.values.items
