use Rattle.std.proofs.Common.{◌≡◌, ℕ, List, map, ◌++◌}
use Rattle.rtrb.specs.Ring.{received, SameConsumer}
use Rattle.ov_order.specs.declared.items.Sent.TheVariants.{Frame}
use Rattle.ov_workers.proofs.writer.drop_frames.Given as goal

-- Frames were taken so far.
abbrev pub invariant-loop : goal.invariant-loop
invariant-loop g l = SameConsumer l.initial.ring l.ring × ((frames : List (List ℕ)) × (received l.ring ≡ received l.initial.ring ++ map Frame frames))
