use Rattle.std.proofs.Common.{sym, subst, arith, codes}
use Rattle.std.specs.List.{AllByRecursion}
use Rattle.sqlite.specs.State.{HasCleanDisk}
use Rattle.sqlite.specs.Held.{state}
use Rattle.ov_tables.specs.Tables.{meta_table, line_table, tree_number, HasLineTables}
use Rattle.ov_tables.specs.Format.{HasNumber}
use Rattle.ov_tables.proofs.ListingLemmas.{touches_of, rows_beside}
use Rattle.ov_tables.proofs.KeepLemmas.{on_ok}
use Rattle.ov_tables.proofs.EmptyLemmas.{lines_numbers, meta_numbers, meta_not_line, empties_lines}
use Rattle.ov_tables.proofs.clear.clear_lines.Goals as goal

pub returns-clause-ok : goal.returns-clause-ok
returns-clause-ok g c clean mode text may =
    let old = state g.S.Store c.args.tx.now.conn.now in
    let a = state g.S.Store c.clear_line.new.tx.conn.now in
    let b = state g.S.Store c.clear_meta.new.tx.conn.now in
    let new = state g.S.Store c.make_rows.new.tx.conn.now in
    let late : HasCleanDisk b = omega (arith, c.make_rows.ensures.survives.clean) in
    let early : HasCleanDisk a = omega (arith, c.clear_meta.ensures.survives.clean) in
    let one = c.in_ok-clear_line.ensures.ok early mode (λ up. let it = may up in (it.format.schema.line, it.sound, lines_numbers _ it.format.lines)) in
    let it = may one.was_open in
    let at_a = subst HasLineTables (sym one.schema) it.format.schema in
    let touched = touches_of old.now a.now (line_table (tree_number old.now.schema (codes "line"))) it.format.schema.line it.sound one.others one.schema one.sound in
    let meta = rows_beside old.now a.now _ touched (meta_table (tree_number old.now.schema (codes "meta"))) it.format.schema.meta it.sound (meta_not_line old.now.schema it.format.schema) in
    let two = c.in_ok-clear_meta.ensures.ok late one.mode (λ _. (at_a.meta, one.sound, subst (AllByRecursion HasNumber) (sym meta) (meta_numbers 1 text _ it.format.meta))) in
    let at_b = subst HasLineTables (sym two.schema) at_a in
    on_ok c.make_rows.result (c.make_rows.ensures.ok clean two.mode (λ _. (at_b.head, at_b.cell, at_b.counts, two.sound)))
    (λ three. empties_lines text old a b new it one two three)
