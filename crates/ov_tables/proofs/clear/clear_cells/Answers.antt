use Rattle.std.proofs.Common.{◌∙◌, sym, subst, arith, codes}
use Rattle.std.specs.List.{AllByRecursion}
use Rattle.sqlite.specs.State.{HasCleanDisk}
use Rattle.sqlite.specs.Held.{state}
use Rattle.ov_tables.specs.Tables.{head_table, cell_table, tree_number, HasCellTables, meta_table}
use Rattle.ov_tables.specs.Format.{HasNumber}
use Rattle.ov_tables.proofs.ListingLemmas.{touches_of, rows_beside}
use Rattle.ov_tables.proofs.KeepLemmas.{on_ok}
use Rattle.ov_tables.proofs.MetaLemmas.{head_not_cell, meta_not_cell, meta_not_head}
use Rattle.ov_tables.proofs.EmptyLemmas.{heads_numbers, cells_numbers, meta_numbers, empties_cells}
use Rattle.ov_tables.proofs.clear.clear_cells.Goals as goal

pub returns-clause-ok : goal.returns-clause-ok
returns-clause-ok g c clean mode text may =
    let old = state g.S.Store c.args.tx.now.conn.now in
    let a = state g.S.Store c.clear_cell.new.tx.conn.now in
    let b = state g.S.Store c.clear_head.new.tx.conn.now in
    let new = state g.S.Store c.clear_meta.new.tx.conn.now in
    let late : HasCleanDisk b = omega (arith, c.clear_meta.ensures.survives.clean) in
    let early : HasCleanDisk a = omega (arith, c.clear_head.ensures.survives.clean) in
    let one = c.in_ok-clear_cell.ensures.ok early mode (λ up. let it = may up in (it.format.schema.cell, it.sound, cells_numbers _ it.format.cells)) in
    let it = may one.was_open in
    let at_a = subst HasCellTables (sym one.schema) it.format.schema in
    let cell_touched = touches_of old.now a.now (cell_table (tree_number old.now.schema (codes "cell"))) it.format.schema.cell it.sound one.others one.schema one.sound in
    let heads = rows_beside old.now a.now _ cell_touched (head_table (tree_number old.now.schema (codes "head"))) it.format.schema.head it.sound (head_not_cell old.now.schema it.format.schema) in
    let two = c.in_ok-clear_head.ensures.ok late one.mode (λ _. (at_a.head, one.sound, subst (AllByRecursion HasNumber) (sym heads) (heads_numbers _ it.format.heads))) in
    let at_b = subst HasCellTables (sym two.schema) at_a in
    let head_touched = touches_of a.now b.now (head_table (tree_number a.now.schema (codes "head"))) at_a.head one.sound two.others two.schema two.sound in
    let meta = rows_beside a.now b.now _ head_touched (meta_table (tree_number a.now.schema (codes "meta"))) at_a.meta one.sound (meta_not_head a.now.schema at_a)
    ∙ rows_beside old.now a.now _ cell_touched (meta_table (tree_number old.now.schema (codes "meta"))) it.format.schema.meta it.sound (meta_not_cell old.now.schema it.format.schema) in
    on_ok c.clear_meta.result (c.clear_meta.ensures.ok clean two.mode (λ _. (at_b.meta, two.sound, subst (AllByRecursion HasNumber) (sym meta) (meta_numbers 2 text _ it.format.meta))))
    (λ three. empties_cells text old a b new it one two three)
