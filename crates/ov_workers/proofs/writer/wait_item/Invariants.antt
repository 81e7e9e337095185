use Rattle.std.proofs.Common.{◌≡◌}
use Rattle.rtrb.specs.Ring.{received, SameConsumer}
use Rattle.ov_workers.proofs.writer.wait_item.Given as goal

-- Until there is an item, nothing was taken.
abbrev pub invariant-loop : goal.invariant-loop
invariant-loop g l = SameConsumer l.initial.ring l.ring × (received l.ring ≡ received l.initial.ring)
