use Rattle.std.proofs.Common.{codes}
use Rattle.sqlite.specs.Held.{state}
use Rattle.ov_tables.specs.Tables.{head_table, tree_number, head_clear_text}
use Rattle.ov_tables.proofs.TableLemmas.{tree_is}
use Rattle.ov_tables.proofs.KeepLemmas.{inside_keeps}
use Rattle.ov_tables.proofs.Statements.{head_clear_parsed}
use Rattle.ov_tables.proofs.HeadTexts.{head_clear_is}
use Rattle.ov_tables.proofs.EmptyLemmas.{clears}
use Rattle.ov_tables.proofs.clear.clear_head.Goals as goal

pub returns-clause-ok : goal.returns-clause-ok
returns-clause-ok g c clean mode may =
    let old = state g.S.Store c.args.tx.now.conn.now in
    let new = state g.S.Store c.execute.new.self.conn.now in
    let ran = c.in_ok-execute.ensures.runs clean mode in
    let it = may ran.1.was_open in
    let schema = old.now.schema in
    let tree = tree_number schema (codes "head") in
    clears old new (head_table tree) head_clear_text head_clear_parsed it.0 it.1 (λ at there. head_clear_is schema at tree there) it.2 c.in_ok-execute.field-0 ran.0 ran.1.mode ran.1.was_open ran.1.is_open (tree_is schema (head_table tree) it.0)

pub returns-clause-kept : goal.returns-clause-kept
returns-clause-kept g c clean mode = inside_keeps _ _ _ _ _ (c.execute.ensures.runs clean mode)
