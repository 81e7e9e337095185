use Rattle.std.proofs.Common.{refl, sym, subst, ap, ◌∙◌}
use Rattle.serde_json.specs.View.{view}
use Rattle.ov_specs.specs.operations.OpOutcome.{OpOutcome}
use Rattle.ov_specs.specs.operations.Wait.{waits, wait_outcome}
use Rattle.ov_ops.specs.Outcomes.{context_of, IsOperationRefused, IsOutcome}
use Rattle.ov_ops.proofs.wait.wait.Goals as goal

pub returns-in-Err-Refused : goal.returns-in-Err-Refused
returns-in-Err-Refused g c =
    let refused : IsOperationRefused (wait_outcome (context_of g.O.Owns.owned c.args.ctx.now c.args.stage.now.before) c.args.stage.now.now (view c.args.operation.now)) c.in-Err-Refused.field-0 = c.in-Err-Refused.ensures c.args.stage.now.before c.args.stage.now.now in
    rw c.in-Err-Refused.error-is (subst (IsOperationRefused (wait_outcome (context_of g.O.Owns.owned c.args.ctx.now c.args.stage.now.before) c.args.stage.now.now (view c.args.operation.now))) c.in-Err-Refused.field-0-is refused)

pub returns-in-Ok-has_come : goal.returns-in-Ok-has_come
returns-in-Ok-has_come g c =
    let before = c.args.stage.now.before in
    let t = context_of g.O.Owns.owned c.args.ctx.now before in
    let rows = c.args.stage.now.now in
    let read = c.in-Ok.ensures before rows in
    subst (λ (o : OpOutcome). IsOutcome o c.come.result rows) (sym (read ∙ ap (λ b. waits t c.in-Ok.waited.timeout b rows) (sym c.in-Ok-has_come.ensures))) (c.come.ensures t rows refl)
