use Rattle.std.proofs.Common.{◌≡◌}
use Rattle.rtrb.specs.Ring.{received, SameConsumer}
use Rattle.ov_workers.proofs.arrivals.Arrivals.take.Given as goal

-- Until there is an item, nothing was taken.
abbrev pub invariant-loop : goal.invariant-loop
invariant-loop g l = SameConsumer l.initial.self.ring l.self.ring × (received l.self.ring ≡ received l.initial.self.ring) × (l.self.ended ≡ l.initial.self.ended)
