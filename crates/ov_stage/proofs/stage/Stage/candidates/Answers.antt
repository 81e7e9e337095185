use Rattle.std.proofs.Common.{filter, ap, sym, ◌∙◌}
use Rattle.std.proofs.lemmas.Result.{IfOk-weaker}
use Rattle.std.specs.FinMap.{entries}
use Rattle.ov_specs.specs.operations.MatchingRows.{meets_all}
use Rattle.ov_stage.proofs.Lookups.{matching-at}
use Rattle.ov_stage.proofs.Meeting.{matching-of_table}
use Rattle.ov_stage.proofs.stage.Stage.candidates.Goals as goal

pub returns-in-Some : goal.returns-in-Some
returns-in-Some c =
    let conditions = c.args.conditions.now in
    IfOk-weaker c.rows_at.result _ _ (λ rows h. ap (filter (meets_all conditions)) h ∙ matching-at c.args.self.now.now c.args.table.now c.in-Some.id conditions c.in-Some.ensures) c.rows_at.ensures

pub returns-in-None : goal.returns-in-None
returns-in-None c =
    let conditions = c.args.conditions.now in
    IfOk-weaker c.rows_of.result _ _ (λ rows h. ap (filter (meets_all conditions)) h ∙ sym (matching-of_table c.args.table.now conditions (entries c.args.self.now.now))) c.rows_of.ensures
