use Rattle.std.proofs.Common.{ℕ, true}
use Rattle.std.specs.VecDeque.{deque_len}
use Rattle.ov_hall.specs.Seats.{AreStarted}
use Rattle.ov_hall.proofs.start.dismiss_all.Given as goal

abbrev pub invariant-loop-one : goal.invariant-loop-one
invariant-loop-one g l = (serial : ℕ) × AreStarted true serial l.started.items

abbrev pub decreases-loop-one : goal.decreases-loop-one
decreases-loop-one g l = deque_len l.started
