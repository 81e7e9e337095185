use Rattle.std.proofs.Common.{codes, refl, true}
use Rattle.std.proofs.lemmas.Result.{IfOk-weaker}
use Rattle.sqlite.specs.Held.{state}
use Rattle.ov_tables.specs.Tables.{head_table, tree_number, head_select_text}
use Rattle.ov_tables.specs.Querying.{head_selected}
use Rattle.ov_tables.proofs.Statements.{head_select_parsed}
use Rattle.ov_tables.proofs.HeadTexts.{head_select_is, head_select_listed}
use Rattle.ov_tables.proofs.ReadLemmas.{selects, shown_open}
use Rattle.ov_tables.proofs.query.head_rows.Goals as goal

pub returns-clause-rows : goal.returns-clause-rows
returns-clause-rows g c clean has =
    let begun = state g.S.Store (record c.args.conn.now { in_transaction = true }) in
    let schema = begun.now.schema in
    let tree = tree_number schema (codes "head") in
    IfOk-weaker c.query.result _ _ (λ rows it.
    let up = shown_open _ _ begun (state g.S.Store it.0) rows.items it.1 in
    (up, selects begun (state g.S.Store it.0) (head_table tree) head_select_text _ _ head_selected head_select_parsed (has up) (c.query.ensures.settled up).1 (λ at there. head_select_is schema at tree there) (λ at there. head_select_listed schema at tree there) (λ r. refl) rows.items it.1))
    (c.query.ensures.rows clean)
