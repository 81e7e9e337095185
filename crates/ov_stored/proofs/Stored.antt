-- What is stored of a database after changes of its rows.
use Rattle.std.proofs.Common.{◌≡◌, List, [], ◌∷◌, map, Option, Some, None, refl, ap, ◌∙◌}
use Rattle.ov_specs.specs.rows.Cells.{after_cell_change, after_cell_changes, cell_lines_of}
use Rattle.ov_specs.specs.rows.Database.{Database, Row}
use Rattle.ov_specs.specs.rows.Lines.{LineKey}
use Rattle.ov_stored.specs.Changing.{change_of, with_row_change, with_row_changes}
use Rattle.ov_stored.proofs.CellMaps.{cell_lines-insert, cell_lines-remove}

-- one change of a row, and what it makes of what is stored
stores_one : (key : LineKey) (o : Option Row) (database : Database) → after_cell_change (change_of (key, o)) (cell_lines_of database) ≡ cell_lines_of (with_row_change key o database)
stores_one key (Some row) database = cell_lines-insert database key row
stores_one key None database = cell_lines-remove database key

pub stores : (cs : List (LineKey × Option Row)) (database : Database) → after_cell_changes (map change_of cs) (cell_lines_of database) ≡ cell_lines_of (with_row_changes cs database)
stores [] database = refl
stores (c ∷ cs) database = ap (after_cell_changes (map change_of cs)) (stores_one c.0 c.1 database) ∙ stores cs (with_row_change c.0 c.1 database)
