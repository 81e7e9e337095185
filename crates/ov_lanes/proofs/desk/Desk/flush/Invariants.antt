use Rattle.ov_lanes.specs.Lanes.{FlushesDesk, unmarked}
use Rattle.ov_lanes.proofs.desk.Desk.flush.Given as goal

abbrev pub invariant-loop : goal.invariant-loop
invariant-loop g l = FlushesDesk g.K.Keeper.is_honest l.initial.self l.self

abbrev pub decreases-loop : goal.decreases-loop
decreases-loop g l = unmarked l.self.lanes.items
