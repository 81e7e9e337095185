use Rattle.std.proofs.Common.{◌≡◌, ℕ, ◌++◌, List, length, false}
use Rattle.rtrb.specs.Ring.{sent, SameProducer}
use Rattle.ov_outbox.specs.Frames.{waiting_for}
use Rattle.ov_lanes.specs.Since.{HandsOut}
use Rattle.ov_lanes.specs.Fitting.{framed}
use Rattle.ov_lanes.proofs.moves.move_frames.Given as goal

abbrev pub invariant-loop-frame : goal.invariant-loop-frame
invariant-loop-frame g l =
    (moved : List (List ℕ)) × HandsOut l.initial.lane.session.serial moved l.initial.core l.core
    × (sent l.lane.outbound ≡ sent l.initial.lane.outbound ++ framed moved)
    × SameProducer l.initial.lane.outbound l.lane.outbound × (l.lane.inbound ≡ l.initial.lane.inbound)
    × (l.lane.session ≡ l.initial.lane.session) × (l.lane.cause ≡ l.initial.lane.cause) × (l.lane.ended ≡ l.initial.lane.ended) × (l.lane.marked ≡ false)
    × (g.K.Keeper.is_honest l.core.keeper → g.K.Keeper.is_honest l.initial.core.keeper)

abbrev pub decreases-loop-frame : goal.decreases-loop-frame
decreases-loop-frame g l = length (waiting_for l.lane.session.serial l.core.outbox)
