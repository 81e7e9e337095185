use Rattle.std.proofs.Common.{◌≡◌, true, false, refl, sym, ◌∙◌, rules}
use Rattle.std.specs.Prelude.{is_ok}
use Rattle.std.proofs.lemmas.Bool.{false≢true}
use Rattle.ov_specs.specs.machine.Machine.{is_open}
use Rattle.ov_serve.proofs.Fed.{passed_if}
use Rattle.ov_serve.proofs.serve.serve_piece.Goals as goal

-- the piece closed the session
pub returns-else-is_open-clause-entered : goal.returns-else-is_open-clause-entered
returns-else-is_open-clause-entered g c = λ stream fed.
    let away : is_open c.feed_session.new.core.state c.args.session.serial ≡ false = search rules in
    record {
      at = c.now-at.result;
      reported = c.now-at.ensures;
      mid = c.feed_session.new.core;
      enters = c.feed_session.ensures.enters stream fed;
      ticks = false;
      passes = refl;
      still = λ ticks. absurd (false≢true ticks);
      given = λ all there. absurd (false≢true (sym away ∙ there));
    }

-- time passed, or nothing was due
pub returns-in_ok-pass_where_due-clause-entered : goal.returns-in_ok-pass_where_due-clause-entered
returns-in_ok-pass_where_due-clause-entered g c = λ stream fed.
    let there : is_open c.feed_session.new.core.state c.args.session.serial ≡ true = search rules in
    record {
      at = c.now-at.result;
      reported = c.now-at.ensures;
      mid = c.feed_session.new.core;
      enters = c.feed_session.ensures.enters stream fed;
      ticks = c.in_ok-pass_where_due.field-0;
      passes = passed_if g.D.Draws.draws c.in_ok-pass_where_due.field-0 c.now-at.result c.feed_session.new.core c.pass_where_due.new.self c.in_ok-pass_where_due.ensures.due c.in_ok-pass_where_due.ensures.passes;
      still = λ ticks. there;
      given = λ all open'. c.in_ok-pass_where_due.ensures.due;
    }

-- an allocation for it failed
pub returns-in_err-pass_where_due-clause-entered : goal.returns-in_err-pass_where_due-clause-entered
returns-in_err-pass_where_due-clause-entered g c = λ stream fed.
    let refused : is_ok c.from_residual.result ≡ false = search rules in
    record {
      at = c.now-at.result;
      reported = c.now-at.ensures;
      mid = c.feed_session.new.core;
      enters = c.feed_session.ensures.enters stream fed;
      ticks = false;
      passes = c.in_err-pass_where_due.ensures.refused.0;
      still = λ ticks. absurd (false≢true ticks);
      given = λ all there. absurd (false≢true (sym refused ∙ all));
    }
