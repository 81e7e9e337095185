use Rattle.std.proofs.Common.{rules, ◌≡◌, true, sym, ap, subst, ◌∙◌}
use Rattle.std.specs.FinMap.{values}
use Rattle.ov_keeper.specs.Views.{cells_view}
use Rattle.ov_rows.specs.Named.{DoAscend}
use Rattle.ov_stored.specs.Guessed.{are_values_for}
use Rattle.ov_stored.proofs.Guessed.{row_names_ascend, guessed_cells}
use Rattle.ov_stored.proofs.read_cells.cells_by_guess.Goals as goal

pub guessed_columns-requires : goal.guessed_columns-requires
guessed_columns-requires c = subst DoAscend (sym c.row_shape.ensures.names) (row_names_ascend c.args.table.now)

pub returns : goal.returns
returns c =
    let table = c.args.table.now in
    let columns = c.in_ok-columns.columns in
    let are : are_values_for table (values columns) ≡ true = search rules in
    let cells = c.args.line.now.cells.items in
    let same : cells_view cells ≡ cells_view c.as_slice.result.now = sym (ap (λ cs. cells_view cs) c.as_slice.ensures.value) in
    guessed_cells table columns (c.in_ok-columns.ensures.names ∙ c.row_shape.ensures.names) are c.args.line.now.version (cells_view cells) (same ∙ c.in_ok-columns.ensures.cells) c.in_ok-columns.ensures.read
