-- Changes of a database by their keys, and the database after them.
use Rattle.std.specs.Prelude.{◌≡◌, List, [], ◌∷◌, map, Option, Some, None}
use Rattle.std.specs.FinMap.{FinMap, get, insert, remove, entries}
use Rattle.ov_specs.specs.rows.Cells.{CellChange, PutCells, RemoveCells, cell_line_of}
use Rattle.ov_specs.specs.rows.Database.{Database, Row}
use Rattle.ov_specs.specs.rows.Lines.{LineKey, line_cmp}
use Rattle.ov_specs.specs.rows.Suits.{SuitsRow}
use Rattle.ov_specs.specs.schema.SchemaTypes.{Schema}

-- for each key the new row, or None if the row is removed
abbrev pub Delta : Type 0
Delta = FinMap line_cmp (Option Row)

-- the database with this row at the key, or with none there
abbrev pub with_row_change : LineKey → Option Row → Database → Database
with_row_change key (Some row) database = insert database key row
with_row_change key None database = remove database key

-- the database after these changes, made in order
abbrev pub with_row_changes : List (LineKey × Option Row) → Database → Database
with_row_changes [] database = database
with_row_changes (change ∷ changes) database = with_row_changes changes (with_row_change change.0 change.1 database)

-- the database after all changes of the delta
abbrev pub applied : Delta → Database → Database
applied delta database = with_row_changes (entries delta) database

-- what a change makes of what is stored under its key
abbrev pub change_of : LineKey × Option Row → CellChange
change_of (key, Some row) = PutCells key (cell_line_of row)
change_of (key, None) = RemoveCells key

-- the changes that put these rows
abbrev pub as_puts : List (LineKey × Row) → List (LineKey × Option Row)
as_puts = map (λ r. (r.0, Some r.1))

-- each row that the changes put is a row of the schema
abbrev pub SuitsChanges : Schema → Delta → Type 0
SuitsChanges schema delta = (key : LineKey) (row : Row) → get delta key ≡ Some (Some row) → SuitsRow schema key row
