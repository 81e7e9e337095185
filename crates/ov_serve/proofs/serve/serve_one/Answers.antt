use Rattle.std.proofs.Common.{ℕ, subst}
use Rattle.ov_serve.specs.Serving.{server_of, Served}
use Rattle.ov_serve.proofs.serve.serve_one.Goals as goal

pub returns-clause-served : goal.returns-clause-served
returns-clause-served g c =
    let old = server_of g.S.Source g.W.Sink c.args.core.now c.args.reader.now c.args.writer.now c.args.clock.now in
    let new = server_of g.S.Source g.W.Sink c.serve_session.new.core c.serve_session.new.reader c.serve_session.new.writer c.serve_session.new.clock in
    let entered = c.in_ok-session.ensures.opened in
    record {
      served = subst (λ (n : ℕ). Served g.C.Clock.tells n old c.serve_session.result new) entered.tells.1 (c.serve_session.ensures.served c.args.core.now entered);
      flushed = c.serve_session.ensures.flushed;
      counts = c.serve_session.ensures.ends;
      input = c.serve_session.ensures.input;
      all = c.serve_session.ensures.all;
      given = c.serve_session.ensures.given;
    }
