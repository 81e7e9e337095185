use Rattle.ov_outbox.proofs.Releasing.{IsReleasing}
use Rattle.ov_outbox.proofs.prepared.Prepared.release.Given as goal

abbrev pub invariant-loop-session : goal.invariant-loop-session
invariant-loop-session l = IsReleasing l.initial.frames.items l.frames.items l.fn.queues l.queues

abbrev pub decreases-loop-session : goal.decreases-loop-session
decreases-loop-session l = l.frames.len
