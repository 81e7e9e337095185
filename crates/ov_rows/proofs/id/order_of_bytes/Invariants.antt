use Rattle.std.proofs.Common.{◌≡◌, drop, nat_cmp}
use Rattle.std.specs.Cmp.Lexicographic.{slice_cmp}
use Rattle.ov_rows.proofs.id.order_of_bytes.Given as goal

abbrev pub invariant-loop-at : goal.invariant-loop-at
invariant-loop-at l = slice_cmp nat_cmp l.a l.b ≡ slice_cmp nat_cmp (drop l.at l.a) (drop l.at l.b)
