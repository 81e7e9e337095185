use Rattle.std.proofs.Common.{◌≡◌, sym, subst}
use Rattle.sqlite.specs.declared.types.Value.TheVariants.{Blob}
use Rattle.sqlite.specs.Order.{column}
use Rattle.sqlite.specs.Held.{state}
use Rattle.sqlite_value.specs.Order.{bytes}
use Rattle.ov_specs.specs.rows.Lines.{LineKey}
use Rattle.ov_tables.specs.Format.{stored_cells}
use Rattle.ov_sqlite.specs.Renewing.{IsBodyChanged, HasBody}
use Rattle.ov_sqlite.proofs.RunLemmas.{makes_none, makes_weaker}
use Rattle.ov_sqlite.proofs.PlaceLemmas.{body_kept}
use Rattle.ov_sqlite.proofs.WritingLemmas.{writes_none, writes_as}
use Rattle.ov_sqlite.proofs.renew.renew_cell.Goals as goal

pub returns-then-is_blob_at : goal.returns-then-is_blob_at
returns-then-is_blob_at g c =
    let old = state g.S.Store c.args.tx.now.conn.now in
    let line = c.args.line.now in
    let cell = c.args.cell.now in
    let row = c.args.row.now in
    let k : LineKey = (line.table, line.id) in
    let m = stored_cells old.now.trees in
    let is : column row 1 ≡ Blob cell.body = rw c.as_slice.ensures at (c.is_blob_at.ensures.0 c.if-is_blob_at.true) in
    record {
      writes = writes_none tt _ (λ text mode may. makes_none text (IsBodyChanged k cell.column (bytes (column row 1)) cell.body) old mode may
          (subst (λ v. IsBodyChanged k cell.column (bytes v) cell.body m m) (sym is) (body_kept k cell.column cell.body m)));
    }

pub returns : goal.returns
returns g c =
    let line = c.args.line.now in
    let cell = c.args.cell.now in
    let k : LineKey = (line.table, line.id) in
    let was = bytes (column c.args.row.now 1) in
    record {
      writes = writes_as c.update_cell.result c.update_cell.ensures.writes
          (λ text may. (may, makes_weaker text (HasBody k cell.column cell.body) (IsBodyChanged k cell.column was cell.body) _ _ (λ has. has was)));
    }
