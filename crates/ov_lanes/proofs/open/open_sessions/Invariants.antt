use Rattle.std.proofs.Common.{◌≤◌, ◌-◌}
use Rattle.std.specs.VecDeque.{deque_len, deque_capacity}
use Rattle.ov_lanes.specs.Opening.{AreSessions, OpensAll}
use Rattle.ov_lanes.proofs.open.open_sessions.Given as goal

abbrev pub invariant-loop-core : goal.invariant-loop-core
invariant-loop-core g l = record {
  opens : OpensAll l.initial.core l.initial.core.state.next (deque_len l.sessions) l.core;
  serials : AreSessions l.initial.core.state.next l.sessions.items;
  room : l.count ≤ deque_capacity l.sessions;
  few : deque_len l.sessions ≤ l.count;
  honest : g.K.Keeper.is_honest l.core.keeper → g.K.Keeper.is_honest l.initial.core.keeper;
}

abbrev pub decreases-loop-core : goal.decreases-loop-core
decreases-loop-core g l = l.count - deque_len l.sessions
