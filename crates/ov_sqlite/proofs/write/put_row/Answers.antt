use Rattle.std.proofs.Common.{◌∙◌, ap, sym, refl, subst, IsTrue}
use Rattle.std.specs.FinMap.{empty, get, insert}
use Rattle.sqlite.specs.declared.error.Error.TheVariants.{SqliteFailure}
use Rattle.sqlite.specs.State.{HasCleanDisk, IsUnchanged}
use Rattle.sqlite.specs.Held.{state}
use Rattle.ov_specs.specs.rows.Lines.{LineKey}
use Rattle.ov_specs.specs.rows.Cells.{CellLines}
use Rattle.ov_keeper.specs.Views.{cells_view}
use Rattle.ov_tables.specs.Format.{stored_cells}
use Rattle.ov_sqlite.specs.Changing.{Becomes}
use Rattle.ov_sqlite.proofs.RunLemmas.{may_same, makes_same}
use Rattle.ov_sqlite.proofs.RefillLemmas.{put_found, put_new}
use Rattle.ov_sqlite.proofs.WritingLemmas.{opened_first, writes_after, rows_then}
use Rattle.ov_sqlite.proofs.write.put_row.Goals as goal

pub returns-in-Ok : goal.returns-in-Ok
returns-in-Ok g c =
    let line = c.args.line.now in
    let k : LineKey = (line.table, line.id) in
    let v = line.version in
    let old = state g.S.Store c.args.tx.now.conn.now in
    let mid = state g.S.Store c.insert_head.new.tx.conn.now in
    let new = state g.S.Store c.insert_cells.new.tx.conn.now in
    let head = c.in-Ok.ensures.writes in
    let cells = c.insert_cells.ensures.writes in
    record {
      writes = record {
        tables = rows_then c.insert_cells.result head.tables cells
            (λ text may made. (made.stored, λ up. ((v, empty), ap (λ (m : CellLines). get m k) made.lines_are.1 ∙ put_found (stored_cells old.now.trees) k (v, empty), refl)))
            (put_new k v (cells_view line.cells.items));
        opened = opened_first old mid new c.insert_cells.result head.opened cells.survives;
      };
    }

pub returns-in-Err-SqliteFailure-ConstraintViolation : goal.returns-in-Err-SqliteFailure-ConstraintViolation
returns-in-Err-SqliteFailure-ConstraintViolation g c =
    let old = state g.S.Store c.args.tx.now.conn.now in
    let mid = state g.S.Store c.insert_head.new.tx.conn.now in
    let new = state g.S.Store c.update_row.new.tx.conn.now in
    let line = c.args.line.now in
    let k : LineKey = (line.table, line.id) in
    let first = c.insert_head.ensures.writes.tables in
    let row = c.update_row.ensures.writes.tables in
    let refused = c.in-Err-SqliteFailure-ConstraintViolation in
    let same = λ (clean : HasCleanDisk mid) (mode : IsTrue old.in_transaction). let it : IsUnchanged old mid = refused.ensures.refused clean mode (refused.field-0-0-0, refused.field-0-is ∙ ap SqliteFailure refused.field-0-0-is) in it in
    record {
      writes = record {
        tables = writes_after c.update_row.result first.same_reference (λ clean mode. subst IsTrue (sym (same clean mode).0.mode) mode) first.kept first.survives row
            (λ text clean mode may. (text, may_same text old mid (same clean mode) may, makes_same text (Becomes (λ m. insert m k (line.version, cells_view line.cells.items))) old mid new (same clean mode)));
        opened = opened_first old mid new c.update_row.result (λ clean mode. (same clean mode).0.was_open) row.survives;
      };
    }
