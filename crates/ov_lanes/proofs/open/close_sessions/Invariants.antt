use Rattle.std.specs.VecDeque.{deque_len}
use Rattle.ov_core.specs.Following.{CoreState}
use Rattle.ov_lanes.specs.Opening.{AreSessions, OpensAll, ClosesDown}
use Rattle.ov_lanes.proofs.open.close_sessions.Given as goal

abbrev pub invariant-loop-session : goal.invariant-loop-session
invariant-loop-session g l =
    ((start : CoreState g.row.K.Denot g.row.D.Denot) → AreSessions start.state.next l.initial.sessions.items → OpensAll start start.state.next (deque_len l.initial.sessions) l.initial.core
    → AreSessions start.state.next l.sessions.items × ClosesDown start start.state.next (deque_len l.initial.sessions) (deque_len l.sessions) l.core)
    × (g.K.Keeper.is_honest l.core.keeper → g.K.Keeper.is_honest l.initial.core.keeper)

abbrev pub decreases-loop-session : goal.decreases-loop-session
decreases-loop-session g l = deque_len l.sessions
