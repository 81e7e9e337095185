use Rattle.std.proofs.Common.{ℕ, ◌<◌}
use Rattle.ov_lanes.specs.declared.lane.Lane.{Lane}
use Rattle.ov_lanes.specs.Lanes.{IsAt}
use Rattle.ov_lanes.proofs.lanes.free_place.Given as goal

-- The places before are taken.
abbrev pub invariant-loop-at : goal.invariant-loop-at
invariant-loop-at l = (i : ℕ) → i < l.at → (lane : Lane) × IsAt l.lanes.items i lane
