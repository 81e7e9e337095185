use Rattle.std.proofs.Common.{◌≡◌, length}
use Rattle.ov_sqlite.proofs.join.place_of.Given as goal

abbrev pub invariant-loop-at : goal.invariant-loop-at
invariant-loop-at l = l.at-end ≡ length l.lines
