use Rattle.std.proofs.Common.{◌≡◌, ◌<◌, map, length, get_or, ap, subst, arith, List, Ok}
use Rattle.std.specs.FinMap.{from_entries}
use Rattle.sqlite.specs.Held.{state}
use Rattle.ov_specs.specs.rows.Lines.{LineKey}
use Rattle.ov_specs.specs.rows.Cells.{CellLine}
use Rattle.ov_keeper.specs.declared.cell_line.Cell.{Cell}
use Rattle.ov_tables.specs.Format.{stored_cells}
use Rattle.ov_tables.specs.Holding.{MayHoldCells}
use Rattle.ov_sqlite.specs.Changing.{MakesRows}
use Rattle.ov_sqlite.specs.Writing.{WritesTables}
use Rattle.ov_sqlite.specs.Renewing.{shown_entry, IsChangedInPlace}
use Rattle.ov_sqlite.proofs.RunLemmas.{makes_none}
use Rattle.ov_sqlite.proofs.RefillLemmas.{put_back}
use Rattle.ov_sqlite.proofs.PlaceLemmas.{mixed_all, renewed_at}
use Rattle.ov_sqlite.proofs.WritingLemmas.{writes_none, writes_broken, rows_then}
use Rattle.ov_sqlite.proofs.renew.update_cells.Goals as goal

pub loop-at-init : goal.loop-at-init
loop-at-init g c =
    let line = c.args.line.now in
    let k : LineKey = (line.table, line.id) in
    let s = state g.S.Store c.args.tx.now.conn.now in
    writes_none tt _ (λ text mode may. makes_none text _ _ mode may (put_back (stored_cells s.now.trees) k _))

pub loop-at-preserved : goal.loop-at-preserved
loop-at-preserved g c =
    let i = c.loop-at.at in
    let line = c.args.line.now in
    let rows = c.args.rows.now in
    let k : LineKey = (line.table, line.id) in
    let all = line.cells.items in
    let was : CellLine = (line.version, from_entries (map shown_entry rows)) in
    let x = c.index-cells-at.result in
    let y = c.index-rows-at.result in
    let items = c.as_slice-cells.ensures.value in
    let x_is : x ≡ get_or all i x = subst (λ (xs : List Cell). x ≡ get_or xs i x) items c.index-cells-at.is in
    let low : i < length all = omega (arith, c.loop-at-test.true, ap length items) in
    rows_then (Ok tt) c.loop-at.invariant c.in_ok-renew_cell.ensures.writes (λ text may made. made.stored)
    (renewed_at all rows i x y low c.requires.as_many x_is c.index-rows-at.is c.requires.columns c.requires.ascend k line.version was)

pub returns-in_err-renew_cell : goal.returns-in_err-renew_cell
returns-in_err-renew_cell g c = record { writes = writes_broken _ _ c.from_residual.ensures.1 c.loop-at.invariant c.renew_cell.ensures.writes }

pub returns : goal.returns
returns g c =
    let line = c.args.line.now in
    let rows = c.args.rows.now in
    let k : LineKey = (line.table, line.id) in
    let was : CellLine = (line.version, from_entries (map shown_entry rows)) in
    let i = c.loop-at.at in
    record {
      writes = subst (λ es. WritesTables {T = Unit {0}} g.S.Store (Ok tt) MayHoldCells (MakesRows (IsChangedInPlace k was (line.version, from_entries es))) c.args.tx.now.conn c.loop-at.tx.conn)
          (mixed_all i line.cells.items rows (omega (arith, c.loop-at-test.false, ap length c.as_slice-cells.ensures.value)) c.requires.as_many) c.loop-at.invariant;
    }
