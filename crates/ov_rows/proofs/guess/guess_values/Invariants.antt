use Rattle.std.proofs.Common.{◌≡◌, length}
use Rattle.ov_rows.proofs.guess.guess_values.Given as goal

abbrev pub invariant-loop-place : goal.invariant-loop-place
invariant-loop-place l = length l.values.items ≡ l._place
