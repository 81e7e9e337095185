use Rattle.std.proofs.Common.{sym, ap, ◌∙◌}
use Rattle.std.proofs.lemmas.Result.{IfOk-weaker}
use Rattle.ov_rows.specs.Lending.{lent_row}
use Rattle.ov_stage.proofs.Merging.{keyed, keyed-map}
use Rattle.ov_stage.proofs.merge.rows_of.Goals as goal

pub returns-in-Some : goal.returns-in-Some
returns-in-Some c =
    let table = c.args.table.now in
    IfOk-weaker c.listed.result _ _ (λ listed h. sym (keyed-map table lent_row listed.items) ∙ ap (keyed table) h ∙ c.in-Some.ensures) c.listed.ensures
