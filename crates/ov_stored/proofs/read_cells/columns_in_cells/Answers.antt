use Rattle.std.proofs.Common.{sym, ◌∙◌}
use Rattle.ov_specs.specs.rows.Held.{OfCells}
use Rattle.ov_specs.proofs.laws.RowNames.{names_of_suiting}
use Rattle.ov_keeper.specs.Views.{cells_view}
use Rattle.ov_stored.proofs.StoredSuits.{stored_columns_suit}
use Rattle.ov_stored.proofs.read_cells.columns_in_cells.Goals as goal

pub of-requires : goal.of-requires
of-requires c =
    let table = c.args.table.now in
    let values = c.in_ok-values.values in
    names_of_suiting table values (stored_columns_suit table (OfCells (cells_view c.args.cells.now)) values c.in_ok-values.ensures) ∙ sym c.row_shape.ensures.names
