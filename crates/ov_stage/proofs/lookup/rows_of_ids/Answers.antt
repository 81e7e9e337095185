use Rattle.std.proofs.Common.{map, sym, ap, ◌∙◌}
use Rattle.std.proofs.lemmas.Result.{IfOk-weaker}
use Rattle.ov_rows.specs.Lending.{lent_row, lent_row_of}
use Rattle.ov_stage.proofs.Merging.{keyed, keyed-map}
use Rattle.ov_stage.proofs.Narrowing.{rows-in_table, rows-no_table}
use Rattle.ov_stage.proofs.lookup.rows_of_ids.Goals as goal

pub returns-in-Some : goal.returns-in-Some
returns-in-Some c =
    let table = c.args.table.now in
    IfOk-weaker c.listed_at.result _ _ (λ listed h.
    sym (keyed-map table lent_row listed.items) ∙ ap (keyed table) h ∙ rows-in_table c.args.rows.now table c.in-Some.rows.now c.in-Some.ensures c.args.ids.now) c.listed_at.ensures

pub returns-in-None : goal.returns-in-None
returns-in-None c = ap (map (lent_row_of c.args.table.now)) c.new.ensures.items ∙ sym (rows-no_table c.args.rows.now c.args.table.now c.in-None.ensures c.args.ids.now)
