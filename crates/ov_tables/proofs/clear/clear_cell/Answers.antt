use Rattle.std.proofs.Common.{codes}
use Rattle.sqlite.specs.Held.{state}
use Rattle.ov_tables.specs.Tables.{cell_table, tree_number, cell_clear_text}
use Rattle.ov_tables.proofs.TableLemmas.{tree_is}
use Rattle.ov_tables.proofs.KeepLemmas.{inside_keeps}
use Rattle.ov_tables.proofs.Statements.{cell_clear_parsed}
use Rattle.ov_tables.proofs.CellTexts.{cell_clear_is}
use Rattle.ov_tables.proofs.EmptyLemmas.{clears}
use Rattle.ov_tables.proofs.clear.clear_cell.Goals as goal

pub returns-clause-ok : goal.returns-clause-ok
returns-clause-ok g c clean mode may =
    let old = state g.S.Store c.args.tx.now.conn.now in
    let new = state g.S.Store c.execute.new.self.conn.now in
    let ran = c.in_ok-execute.ensures.runs clean mode in
    let it = may ran.1.was_open in
    let schema = old.now.schema in
    let tree = tree_number schema (codes "cell") in
    clears old new (cell_table tree) cell_clear_text cell_clear_parsed it.0 it.1 (λ at there. cell_clear_is schema at tree there) it.2 c.in_ok-execute.field-0 ran.0 ran.1.mode ran.1.was_open ran.1.is_open (tree_is schema (cell_table tree) it.0)

pub returns-clause-kept : goal.returns-clause-kept
returns-clause-kept g c clean mode = inside_keeps _ _ _ _ _ (c.execute.ensures.runs clean mode)
