use Rattle.std.proofs.Common.{codes, refl, true}
use Rattle.std.proofs.lemmas.Result.{IfOk-weaker}
use Rattle.sqlite.specs.Held.{state}
use Rattle.ov_tables.specs.Tables.{line_table, tree_number, line_select_text}
use Rattle.ov_tables.specs.Querying.{row_selected}
use Rattle.ov_tables.proofs.Statements.{line_select_parsed}
use Rattle.ov_tables.proofs.LineTexts.{line_select_is, line_select_listed}
use Rattle.ov_tables.proofs.ReadLemmas.{selects, shown_open}
use Rattle.ov_tables.proofs.query.line_rows.Goals as goal

pub returns-clause-rows : goal.returns-clause-rows
returns-clause-rows g c clean has =
    let begun = state g.S.Store (record c.args.conn.now { in_transaction = true }) in
    let schema = begun.now.schema in
    let tree = tree_number schema (codes "line") in
    IfOk-weaker c.query.result _ _ (λ rows it.
    let up = shown_open _ _ begun (state g.S.Store it.0) rows.items it.1 in
    (up, selects begun (state g.S.Store it.0) (line_table tree) line_select_text _ _ row_selected line_select_parsed (has up) (c.query.ensures.settled up).1 (λ at there. line_select_is schema at tree there) (λ at there. line_select_listed schema at tree there) (λ r. refl) rows.items it.1))
    (c.query.ensures.rows clean)
