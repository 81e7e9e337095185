use Rattle.std.proofs.Common.{rules, ◌≡◌, ℕ, List, length, subst, sym, arith}
use Rattle.std.specs.VecDeque.{deque_len}
use Rattle.ov_sessions.specs.declared.session.Session.{Session}
use Rattle.ov_core.specs.Following.{CoreState}
use Rattle.ov_lanes.specs.Opening.{AreSessions, OpensAll}
use Rattle.ov_lanes.proofs.Openings.{opens_more, sessions_more}
use Rattle.ov_lanes.proofs.open.open_sessions.Goals as goal

pub returns-in_default-clause-refused : goal.returns-in_default-clause-refused
returns-in_default-clause-refused g c =
    let start = c.args.core.now in
    c.close_sessions.ensures.closes start (subst (λ (l : List Session). AreSessions start.state.next l) (sym c.new.ensures.items) tt)
    (subst (λ (n : ℕ). OpensAll start start.state.next n start) (sym c.new.ensures.len) c.shows_nothing_opened.ensures.opened)

pub loop-core-preserved : goal.loop-core-preserved
loop-core-preserved g c =
    let was = c.loop-core.invariant in let start = c.args.core.now in
    let session = c.in-Ok-open_session.session in let new = c.push_back_reserved.new.self in
    let more = opens_more start.state.next (deque_len c.loop-core.sessions) was.opens g.D.Draws.draws session c.in-Ok-open_session.ensures.opened in
    let long : length c.loop-core.sessions.items ≡ deque_len c.loop-core.sessions = search rules in
    record {
      opens = subst (λ (n : ℕ). OpensAll start start.state.next n c.open_session.new.self) (search rules) more.0;
      serials = subst (λ (l : List Session). AreSessions start.state.next l) (sym c.push_back_reserved.ensures.items) (sessions_more start.state.next c.loop-core.sessions.items session was.serials (omega (arith, more.1, long)));
      room = search rules;
      few = search rules;
      honest = λ honest. was.honest (c.open_session.ensures.honest honest);
    }

pub returns-in-Err-clause-refused : goal.returns-in-Err-clause-refused
returns-in-Err-clause-refused g c =
    let was = c.loop-core.invariant in let start = c.args.core.now in
    c.close_sessions-in-Err.ensures.closes start was.serials
    (subst (λ (k : CoreState g.row.K.Denot g.row.D.Denot). OpensAll start start.state.next (deque_len c.loop-core.sessions) k) (sym c.in-Err.ensures.refused.0) was.opens)

pub returns-clause-opened : goal.returns-clause-opened
returns-clause-opened g c =
    let was = c.loop-core.invariant in let start = c.args.core.now in
    subst (λ (n : ℕ). OpensAll start start.state.next n c.loop-core.core) (search rules) was.opens
