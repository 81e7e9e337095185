use Rattle.std.proofs.Common.{◌≢◌, ℕ, ◌<◌}
use Rattle.ov_lanes.specs.declared.lane.Lane.{Lane}
use Rattle.ov_lanes.specs.Lanes.{IsAt}
use Rattle.ov_lanes.proofs.lanes.place_of.Given as goal

-- None of the places before has it.
abbrev pub invariant-loop-at : goal.invariant-loop-at
invariant-loop-at l = (i : ℕ) (lane : Lane) → i < l.at → IsAt l.lanes.items i lane → lane.session.serial ≢ l.serial
