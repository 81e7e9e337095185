use Rattle.std.proofs.Common.{map, ap, ◌∙◌}
use Rattle.std.proofs.lemmas.Result.{IfOk-weaker}
use Rattle.ov_rows.specs.Lending.{lent_row_of}
use Rattle.ov_stage.proofs.Meeting.{lent-meeting}
use Rattle.ov_stage.proofs.stage.Stage.matching.Goals as goal

pub returns : goal.returns
returns c =
    let table = c.args.table.now in
    let conditions = c.args.conditions.now in
    IfOk-weaker c.meeting.result _ _ (λ met h.
    ap (map (lent_row_of table)) h ∙ lent-meeting table conditions c.in_ok-rows.rows.items ∙ c.in_ok-rows.ensures) c.meeting.ensures
