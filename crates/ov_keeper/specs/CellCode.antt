-- Rows in cells, as models store them.
use Rattle.std.specs.Coded.{Coded, coded×, coded_ℕ, coded_list}
use Rattle.std.specs.FinMap as map
use Rattle.ov_specs.specs.rows.Cells.{CellLine, CellLines}

-- a version, and cells as a map from lists to lists
abbrev pub cell_line_code : Coded CellLine
cell_line_code = coded× (coded_list coded_ℕ) (map.code (coded_list coded_ℕ) (coded_list coded_ℕ))

-- rows as a map from pairs of lists
abbrev pub cell_lines_code : Coded CellLines
cell_lines_code = map.code (coded× (coded_list coded_ℕ) (coded_list coded_ℕ)) cell_line_code
