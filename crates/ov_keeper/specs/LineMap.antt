-- Rows in a hash map.
use Rattle.std.specs.Prelude.{ℕ, List, Bool, true, false, Option, None, Some}
use Rattle.std.specs.List.{count_by}
use Rattle.std.specs.FinMap.{empty, from_entries}
use Rattle.std.specs.HashMap.{spare}
use Rattle.ov_specs.specs.rows.Cells.{CellChange, PutCells, RemoveCells, CellLines}
use Rattle.ov_keeper.specs.declared.line_map.LineMap.{LineMap}

-- the rows, by their keys
abbrev pub lines_in : LineMap → CellLines
lines_in map = from_entries map.rows.entries

-- how many more rows there is room for
abbrev pub spare_in : LineMap → ℕ
spare_in map = spare map.rows

-- the rows of a keeper, which has no map before its first commit or rewrite
abbrev pub lines_of_map : Option LineMap → CellLines
lines_of_map None = empty
lines_of_map (Some map) = lines_in map

-- the change puts a row
abbrev pub is_put : CellChange → Bool
is_put (PutCells key line) = true
is_put (RemoveCells key) = false

-- how many rows have to find room for the changes to be made: one for each that is put, whether or not it replaces one
abbrev pub room_for : List CellChange → ℕ
room_for changes = count_by is_put changes
