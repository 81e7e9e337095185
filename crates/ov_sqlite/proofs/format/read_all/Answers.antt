use Rattle.std.proofs.Common.{◌∙◌, ◌==◌, ◌↔◌, inl, inr, sym, subst, arith, MatchBool, IsTrue, rules}
use Rattle.sqlite.specs.Effect.{Database}
use Rattle.sqlite.specs.State.{HasCleanDisk}
use Rattle.sqlite.specs.Held.{state}
use Rattle.ov_tables.specs.Tables.{HasLineTables, HasCellTables}
use Rattle.ov_tables.specs.Format.{IsFormat}
use Rattle.ov_sqlite.specs.Reading.{ReadsLines}
use Rattle.ov_sqlite.proofs.OpenLemmas.{err_of}
use Rattle.ov_sqlite.proofs.EndingLemmas.{ends_read, ends_passed}
use Rattle.ov_sqlite.proofs.FormatLemmas.{meta_there, tables_by, told_same, told_apart, other_named, read_stored, read_held}
use Rattle.ov_sqlite.proofs.format.read_all.Goals as goal

pub returns-in-Err-clause-reads : goal.returns-in-Err-clause-reads
returns-in-Err-clause-reads g c =
    let old = state g.S.Store c.args.conn.now in
    ends_passed _ _ _ _ c.in-Err.ensures.reads (λ may up. meta_there old.now.schema (may up))
    (λ up may bad text f. elim f [ inl it ↦ bad 1 text it.meta | inr it ↦ bad 2 text it.meta ])

pub returns-then-named-in_cells-clause-ours : goal.returns-then-named-in_cells-clause-ours
returns-then-named-in_cells-clause-ours g c clean ours err =
    let old = state g.S.Store c.args.conn.now in
    let b = c.has_cell_tables-in_cells.result in
    let test : IsTrue b ↔ HasCellTables old.now.schema = rw c.schema.ensures.value at c.has_cell_tables-in_cells.ensures in
    let meta = c.in-Ok.ensures.reads.ok clean (λ up. meta_there old.now.schema ours) in
    other_named old.now c.in-Ok.named.format c.in-Ok.named.schema b (tables_by old.now.schema b test ours) meta.1 (told_apart (c.in-Ok.named.format == 2) b c.if-named-in_cells.true)

pub returns-in-Err-read_rows-clause-reads : goal.returns-in-Err-read_rows-clause-reads
returns-in-Err-read_rows-clause-reads g c = record {
  ok = search rules;
  format = λ clean may err.
      let old = state g.S.Store c.args.conn.now in
      let b = c.has_cell_tables-in_cells.result in
      let test : IsTrue b ↔ HasCellTables old.now.schema = rw c.schema.ensures.value at c.has_cell_tables-in_cells.ensures in
      let first : HasCleanDisk (state g.S.Store c.read_meta.new.conn) = omega (arith, c.read_rows.ensures.reads.survives.clean) in
      let same = c.read_meta.ensures.reads.same first in
      let bad = c.in-Err-read_rows.ensures.reads.format clean (λ up. subst (λ (d : Database). MatchBool b (HasCellTables d.schema) (HasLineTables d.schema)) (sym (same.now up)) (tables_by old.now.schema b test (may (same.was_open up)))) (err_of _ _ err) in
      (same.was_open bad.0, λ text f. bad.1 text (subst (IsFormat text) (sym (same.now bad.0)) f));
  same = search rules;
  survives = search rules;
}

pub returns-in-Ok-probe-clause-reads : goal.returns-in-Ok-probe-clause-reads
returns-in-Ok-probe-clause-reads g c =
    let old = state g.S.Store c.args.conn.now in
    let n = c.in-Ok.named.format in
    let text = c.in-Ok.named.schema in
    let lines = c.in-Ok-read_rows.lines in
    let b = c.has_cell_tables-in_cells.result in
    let test : IsTrue b ↔ HasCellTables old.now.schema = rw c.schema.ensures.value at c.has_cell_tables-in_cells.ensures in
    ends_read _
    (λ clean may.
    let second : HasCleanDisk (state g.S.Store c.read_rows.new.conn) = omega (arith, c.probe.ensures.survives.clean) in
    let first : HasCleanDisk (state g.S.Store c.read_meta.new.conn) = omega (arith, c.read_rows.ensures.reads.survives.clean) in
    let meta = c.in-Ok.ensures.reads.ok first (λ up. meta_there old.now.schema (may up)) in
    let tables = tables_by old.now.schema b test (may meta.0) in
    let same = c.read_meta.ensures.reads.same first in
    let rows = c.in-Ok-read_rows.ensures.reads.ok second (λ up. subst (λ (d : Database). MatchBool b (HasCellTables d.schema) (HasLineTables d.schema)) (sym (same.now up)) tables) in
    let named = rows.1.0 ∙ told_same (n == 2) b c.if-named-in_cells.false in
    let reads = subst (λ (d : Database). ReadsLines d lines) (same.now rows.0) rows.1.1 in (
      meta.0,
      record {
        stored = read_stored old.now n text lines meta.1 named (subst (λ b. MatchBool b (HasCellTables old.now.schema) (HasLineTables old.now.schema)) (sym rows.1.0) tables) reads (c.schema.ensures.live meta.0).0;
        holds = read_held old.now n text lines meta.1 named reads;
      },
    ))
    (search rules) (search rules)
