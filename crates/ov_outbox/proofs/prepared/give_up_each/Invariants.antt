use Rattle.ov_outbox.proofs.Releasing.{IsGivingUp}
use Rattle.ov_outbox.proofs.prepared.give_up_each.Given as goal

abbrev pub invariant-loop-session : goal.invariant-loop-session
invariant-loop-session l = IsGivingUp l.fn.frames.items l.frames.items l.fn.queues l.queues

abbrev pub decreases-loop-session : goal.decreases-loop-session
decreases-loop-session l = l.frames.len
