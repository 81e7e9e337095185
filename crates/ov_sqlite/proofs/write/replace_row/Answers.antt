use Rattle.std.proofs.Common.{◌∙◌, ap, refl}
use Rattle.std.specs.FinMap.{empty, get, insert}
use Rattle.sqlite.specs.Held.{state}
use Rattle.ov_specs.specs.rows.Lines.{LineKey}
use Rattle.ov_specs.specs.rows.Cells.{CellLines}
use Rattle.ov_keeper.specs.Views.{cells_view}
use Rattle.ov_keeper.proofs.LineLemmas.{insert-remove}
use Rattle.ov_tables.specs.Format.{stored_cells}
use Rattle.ov_tables.specs.Holding.{MayHoldCells}
use Rattle.ov_sqlite.specs.Changing.{Becomes, MakesRows}
use Rattle.ov_sqlite.specs.Writing.{WritesTables}
use Rattle.ov_sqlite.proofs.RefillLemmas.{put_found, put_new}
use Rattle.ov_sqlite.proofs.WritingLemmas.{opened_first, rows_then}
use Rattle.ov_sqlite.proofs.write.replace_row.Goals as goal

pub returns : goal.returns
returns g c =
    let line = c.args.line.now in
    let k : LineKey = (line.table, line.id) in
    let v = line.version in
    let all = cells_view line.cells.items in
    let old = state g.S.Store c.args.tx.now.conn.now in
    let one = state g.S.Store c.remove_row.new.tx.conn.now in
    let new = state g.S.Store c.insert_cells.new.tx.conn.now in
    let removed = c.in_ok-remove_row.ensures.writes in
    let put : WritesTables g.S.Store c.insert_cells.result MayHoldCells (MakesRows (Becomes (λ m. insert m k (v, all)))) c.remove_row.new.tx.conn c.insert_cells.new.tx.conn =
    rows_then c.insert_cells.result c.in_ok-insert_head.ensures.writes.tables c.insert_cells.ensures.writes
    (λ text may made. (made.stored, λ up. ((v, empty), ap (λ (m : CellLines). get m k) made.lines_are.1 ∙ put_found (stored_cells one.now.trees) k (v, empty), refl))) (put_new k v all) in
    record {
      writes = record {
        tables = rows_then c.insert_cells.result (rw c.as_str.ensures at removed.tables) put (λ text may made. made.stored)
            (λ a b d gone there. there ∙ ap (λ (m : CellLines). insert m k (v, all)) gone ∙ insert-remove a k (v, all));
        opened = opened_first old one new c.insert_cells.result removed.opened put.survives;
      };
    }
