use Rattle.std.proofs.Common.{◌≡◌, take}
use Rattle.ov_streams.specs.Running.{RunsEvents, stream_events_view}
use Rattle.ov_streams.proofs.streams.Streams.run.Given as goal

abbrev pub invariant-loop-event : goal.invariant-loop-event
invariant-loop-event g l = record {
  count : l.served ≡ l.event-index;
  serves : RunsEvents (stream_events_view (take l.event-index l.event-items)) l.fn.self l.self;
  honest : g.K.Keeper.is_honest l.self.core.keeper → g.K.Keeper.is_honest l.fn.self.core.keeper;
}
