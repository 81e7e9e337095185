use Rattle.std.proofs.Common.{◌≡◌}
use Rattle.ov_order.proofs.order.Order.wait_note.Given as goal

-- Until the note is in, the share is as it was.
abbrev pub invariant-loop : goal.invariant-loop
invariant-loop g l = (l.noter.share.amount ≡ l.initial.noter.share.amount) × (l.noter.serial ≡ l.initial.noter.serial) × (l.noter.share.parts ≡ l.initial.noter.share.parts)
