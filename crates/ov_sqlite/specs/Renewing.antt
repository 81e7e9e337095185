-- A row that is changed in place.
use Rattle.std.specs.Prelude.{◌≡◌, ◌<◌, ℕ, List, map, length, Some}
use Rattle.std.specs.declared.cmp.Ordering.TheVariants.{Less}
use Rattle.std.specs.FinMap.{get, insert, from_entries}
use Rattle.sqlite.specs.Order.{Row, column}
use Rattle.sqlite_value.specs.Order.{bytes}
use Rattle.sqlite_trees.specs.Tree.{IsAscending}
use Rattle.ov_specs.specs.rows.Cells.{CellLine, CellLines}
use Rattle.ov_specs.specs.rows.Lines.{LineKey}
use Rattle.ov_specs.specs.schema.SchemaTypes.{name_cmp}
use Rattle.ov_specs.specs.values.Uuid.{Uuid}
use Rattle.ov_keeper.specs.declared.cell_line.Cell.{Cell}
use Rattle.ov_sqlite.specs.Joining.{CellEntry}

-- a cell as it is read: the name of its column, and its body
abbrev pub shown_entry : Row → CellEntry
shown_entry x = (bytes (column x 0), bytes (column x 1))

-- if any were read, these are the cells of the row of this key
abbrev pub HasRead : LineKey → List Row → CellLines → Type 0
HasRead key rows lines =
    0 < length rows
    → (version : Uuid) × (get lines key ≡ Some (version, from_entries (map shown_entry rows)))

-- the names of the cells' columns ascend
abbrev pub DoCellsAscend : List Cell → Type 0
DoCellsAscend cells = IsAscending (λ a b. name_cmp a.column b.column ≡ Less) cells

-- each row is of the column of the cell at its place
abbrev pub AreOfColumns : List Row → List Cell → Type 0
AreOfColumns rows cells = map (λ x. bytes (column x 0)) rows ≡ map (λ c. c.column) cells

-- the row of this key, if there is one, has this version, and its cells as they were
abbrev pub HasVersion : LineKey → Uuid → CellLines → CellLines → Type 0
HasVersion key version old new =
    (l : CellLine) → get old key ≡ Some l → new ≡ insert old key (version, l.1)

-- the cell of this column, if the row of this key has one with the first body, has the second
abbrev pub IsBodyChanged : LineKey → List ℕ → List ℕ → List ℕ → CellLines → CellLines → Type 0
IsBodyChanged key name was body old new =
    (l : CellLine) → get old key ≡ Some l → get l.1 name ≡ Some was
    → new ≡ insert old key (l.0, insert l.1 name body)

-- the same, whatever the body was
abbrev pub HasBody : LineKey → List ℕ → List ℕ → CellLines → CellLines → Type 0
HasBody key name body old new = (was : List ℕ) → IsBodyChanged key name was body old new

-- the row of this key, if it was the first, became the second
abbrev pub IsChangedInPlace : LineKey → CellLine → CellLine → CellLines → CellLines → Type 0
IsChangedInPlace key was line old new = get old key ≡ Some was → new ≡ insert old key line
