use Rattle.std.proofs.Common.{rules, ◌≡◌, List, true, false, sym, ap, subst, ◌∙◌}
use Rattle.std.proofs.lemmas.Result.{err_from_is_err_and}
use Rattle.std.specs.Cmp.Lexicographic.{pointwise}
use Rattle.std.specs.FinMap.{entries}
use Rattle.ov_specs.specs.rows.Cells.{Cells}
use Rattle.ov_specs.specs.rows.Held.{OfCells, columns_stored, same_cell}
use Rattle.ov_keeper.specs.declared.cell_line.Cell.{Cell}
use Rattle.ov_keeper.specs.Views.{cells_view}
use Rattle.ov_stored.specs.Loading.{IsNotLoaded}
use Rattle.ov_stored.proofs.BodyRows.{no_row, row_if}
use Rattle.ov_stored.proofs.read_cells.cells_in_full.Goals as goal

pub returns-in_err-columns : goal.returns-in_err-columns
returns-in_err-columns c =
    let table = c.args.table.now in
    let line = c.args.line.now in
    let fault = c.in_err-columns.field-0.0 in
    let is = subst (λ (cs : List Cell). IsNotLoaded (columns_stored (OfCells (cells_view cs)) table) fault) c.as_slice.ensures.value c.in_err-columns.ensures in
    let p = err_from_is_err_and c.from_residual.result c.from_residual.ensures.1 in
    rw (p.1, p.2) (no_row table line.version (OfCells (cells_view line.cells.items)) fault is)

pub returns-then-not-are_same : goal.returns-then-not-are_same
returns-then-not-are_same c =
    let table = c.args.table.now in
    let line = c.args.line.now in
    let cells = cells_view line.cells.items in
    let columns = c.in_ok-columns.columns in
    let stored = ap (λ (cs : List Cell). columns_stored (OfCells (cells_view cs)) table) (sym c.as_slice.ensures.value) ∙ c.in_ok-columns.ensures in
    let written = ap (λ (cs : List Cell). cells_view cs) c.as_slice-2.ensures.value ∙ c.in_ok-written.ensures.cells in
    let same = ap (λ (cs : Cells). pointwise same_cell (entries cs) (entries cells)) (sym written)
    ∙ ap (λ (cs : List Cell). pointwise same_cell (entries (cells_view c.as_slice-2.result.now)) (entries (cells_view cs))) (sym c.as_slice-3.ensures.value) ∙ sym c.are_same.ensures in
    let differ : c.are_same.result ≡ false = search rules in
    row_if table line.version (OfCells cells) columns false stored (same ∙ differ)

pub returns : goal.returns
returns c =
    let table = c.args.table.now in
    let line = c.args.line.now in
    let cells = cells_view line.cells.items in
    let columns = c.in_ok-columns.columns in
    let stored = ap (λ (cs : List Cell). columns_stored (OfCells (cells_view cs)) table) (sym c.as_slice.ensures.value) ∙ c.in_ok-columns.ensures in
    let written = ap (λ (cs : List Cell). cells_view cs) c.as_slice-2.ensures.value ∙ c.in_ok-written.ensures.cells in
    let same = ap (λ (cs : Cells). pointwise same_cell (entries cs) (entries cells)) (sym written)
    ∙ ap (λ (cs : List Cell). pointwise same_cell (entries (cells_view c.as_slice-2.result.now)) (entries (cells_view cs))) (sym c.as_slice-3.ensures.value) ∙ sym c.are_same.ensures in
    let are : c.are_same.result ≡ true = search rules in
    row_if table line.version (OfCells cells) columns true stored (same ∙ are)
