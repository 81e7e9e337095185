use Rattle.std.proofs.Common.{◌≡◌, ℕ, ◌<◌, true}
use Rattle.ov_lanes.specs.declared.lane.Lane.{Lane}
use Rattle.ov_lanes.specs.Lanes.{IsAt}
use Rattle.ov_lanes.proofs.lanes.are_over.Given as goal

abbrev pub invariant-loop-place : goal.invariant-loop-place
invariant-loop-place l = (i : ℕ) (lane : Lane) → i < l.place-index → IsAt l.lanes.items i lane → (lane.ended ≡ true) × (lane.marked ≡ true)
