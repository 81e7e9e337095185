use Rattle.std.proofs.Common.{rules, ◌≡◌, length, subst, arith, List}
use Rattle.std.specs.VecDeque.{deque_len}
use Rattle.ov_sessions.specs.declared.session.Session.{Session}
use Rattle.ov_lanes.specs.Opening.{AreSessions, ClosesDown}
use Rattle.ov_lanes.proofs.Openings.{sessions_last}
use Rattle.ov_lanes.proofs.Closing.{closes_none, closes_one, closes_all}
use Rattle.ov_lanes.proofs.open.close_sessions.Goals as goal

pub loop-session-init : goal.loop-session-init
loop-session-init g c = (λ start are opens. (are, closes_none start.state.next (deque_len c.args.sessions) opens), λ honest. honest)

pub loop-session-preserved : goal.loop-session-preserved
loop-session-preserved g c = (
  λ start are opens.
      let was = c.loop-session.invariant.0 start are opens in
      let rest = c.pop_back.new.self.items in let session = c.in-Some.session in
      let last = sessions_last start.state.next rest session (subst (λ (l : List Session). AreSessions start.state.next l) c.in-Some.ensures.items was.0) in
      (last.0, closes_one start.state.next (deque_len c.args.sessions) (deque_len c.pop_back.new.self) session.serial (let e : length rest ≡ deque_len c.pop_back.new.self = search rules in omega (arith, last.1, e)) (subst (λ n. ClosesDown start start.state.next (deque_len c.args.sessions) n c.loop-session.core) (search rules) was.1) c.drop_session.ensures.drops),
  λ honest. c.loop-session.invariant.1 (c.drop_session.ensures.honest honest),
)

pub returns-clause-closes : goal.returns-clause-closes
returns-clause-closes g c start are opens =
    let was = c.loop-session.invariant.0 start are opens in
    closes_all (deque_len c.args.sessions) (subst (λ n. ClosesDown start start.state.next (deque_len c.args.sessions) n c.loop-session.core) (search rules) was.1)
