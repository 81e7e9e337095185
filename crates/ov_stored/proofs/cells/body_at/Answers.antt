use Rattle.std.proofs.Common.{◌≡◌, map, true, false, sym, ap, ◌∙◌}
use Rattle.std.specs.FinMap.{get-from_entries}
use Rattle.std.specs.Str.{bytes_eq}
use Rattle.ov_specs.proofs.laws.Names.{name_cmp_total}
use Rattle.ov_keeper.specs.Views.{cell_entry}
use Rattle.ov_stored.proofs.WrittenCells.{cell_here, cell_later, no_cell}
use Rattle.ov_stored.proofs.cells.body_at.Goals as goal

pub returns-then-eq : goal.returns-then-eq
returns-then-eq c =
    let cells = c.args.cells.now in
    let column = c.args.column.now in
    let same : bytes_eq column c.cell-item.result.column ≡ true = ap (bytes_eq column) (sym c.as_str.ensures) ∙ sym c.eq.ensures ∙ c.if-eq.true in
    sym (get-from_entries name_cmp_total (map cell_entry cells) column ∙ c.loop-cell.invariant ∙ cell_here column cells c.loop-cell.cell-index c.cell-item.result c.loop-cell-test.true c.cell-item.is same)

pub loop-cell-preserved : goal.loop-cell-preserved
loop-cell-preserved c =
    let cells = c.args.cells.now in
    let column = c.args.column.now in
    let other : bytes_eq column c.cell-item.result.column ≡ false = ap (bytes_eq column) (sym c.as_str.ensures) ∙ sym c.eq.ensures ∙ c.if-eq.false in
    c.loop-cell.invariant ∙ cell_later column cells c.loop-cell.cell-index c.cell-item.result c.loop-cell-test.true c.cell-item.is other

pub returns : goal.returns
returns c =
    let cells = c.args.cells.now in
    let column = c.args.column.now in
    sym (get-from_entries name_cmp_total (map cell_entry cells) column ∙ c.loop-cell.invariant ∙ no_cell column cells c.loop-cell.cell-index c.loop-cell-test.false)
