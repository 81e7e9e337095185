use Rattle.std.proofs.Common.{◌≡◌, drop}
use Rattle.ov_specs.specs.rows.Held.{OfCells, columns_stored}
use Rattle.ov_keeper.specs.Views.{cells_view}
use Rattle.ov_stored.proofs.BodyRows.{added_by}
use Rattle.ov_stored.proofs.read_cells.values_in_cells.Given as goal

abbrev pub invariant-loop-name : goal.invariant-loop-name
invariant-loop-name l = columns_stored (OfCells (cells_view l.cells)) l.table ≡ added_by (OfCells (cells_view l.cells)) (drop l.name-index l.name-items) l.values
