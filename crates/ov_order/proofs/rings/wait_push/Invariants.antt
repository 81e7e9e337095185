use Rattle.std.proofs.Common.{◌≡◌}
use Rattle.rtrb.specs.Ring.{sent, SameProducer}
use Rattle.ov_order.proofs.rings.wait_push.Given as goal

-- Until the item is in, the ring has got nothing, and the item is the one given.
abbrev pub invariant-loop : goal.invariant-loop
invariant-loop g l = SameProducer l.initial.ring l.ring × (sent l.ring ≡ sent l.initial.ring) × (l.item ≡ l.initial.item)
