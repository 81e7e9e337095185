use Rattle.std.proofs.Common.{◌≡◌}
use Rattle.rtrb.specs.Ring.{received, SameConsumer}
use Rattle.ov_threads.proofs.hand.take_handed.Given as goal

-- Until something is handed, nothing was taken.
abbrev pub invariant-loop : goal.invariant-loop
invariant-loop g l = SameConsumer l.initial.hand l.hand × (received l.hand ≡ received l.initial.hand)
