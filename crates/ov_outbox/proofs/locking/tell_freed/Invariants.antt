use Rattle.std.proofs.Common.{◌≡◌, length}
use Rattle.ov_outbox.proofs.Releasing.{IsReleasing}
use Rattle.ov_outbox.proofs.locking.tell_freed.Given as goal

abbrev pub invariant-loop-next : goal.invariant-loop-next
invariant-loop-next l = IsReleasing l.fn.locks.1 l.locks.1 l.fn.frames l.frames × (l.locks.0 ≡ l.fn.locks.0)

abbrev pub decreases-loop-next : goal.decreases-loop-next
decreases-loop-next l = length l.locks.1
