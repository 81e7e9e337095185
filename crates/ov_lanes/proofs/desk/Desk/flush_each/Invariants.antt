use Rattle.std.proofs.Common.{◌≡◌, ◌<◌, ◌≤◌, false}
use Rattle.std.specs.Prelude.{MatchBool}
use Rattle.ov_lanes.specs.Lanes.{FlushesDesk, AreFlushedBelow, unmarked}
use Rattle.ov_lanes.proofs.desk.Desk.flush_each.Given as goal

abbrev pub invariant-loop-at : goal.invariant-loop-at
invariant-loop-at g l = record {
  flushes : FlushesDesk g.K.Keeper.is_honest l.initial.self l.self;
  fewer : MatchBool l.any (unmarked l.self.lanes.items < unmarked l.initial.self.lanes.items) (unmarked l.self.lanes.items ≤ unmarked l.initial.self.lanes.items);
  flushed : l.any ≡ false → AreFlushedBelow l.at l.self.core l.self.lanes.items;
}
