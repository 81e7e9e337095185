-- Heads with their cells, as they are read.
use Rattle.std.specs.Prelude.{◌≢◌, ◌++◌, ℕ, zero, suc, List, [], ◌∷◌, map, filter}
use Rattle.sqlite.specs.Order.{Row, column}
use Rattle.sqlite_value.specs.Order.{bytes}
use Rattle.sqlite_trees.specs.Tree.{IsAscending}
use Rattle.ov_specs.specs.rows.Lines.{LineKey}
use Rattle.ov_specs.specs.rows.Database.{same_key}
use Rattle.ov_specs.specs.values.Uuid.{Uuid}
use Rattle.ov_keeper.specs.declared.cell_line.CellLine.{CellLine}
use Rattle.ov_keeper.specs.Views.{cell_entry}
use Rattle.ov_tables.specs.Format.{row_key, cell_of}

-- the name of a column, and the body of a cell
abbrev pub CellEntry : Type 0
CellEntry = List ℕ × List ℕ

-- a row: its key, its version, and its cells in the order in which they were read
abbrev pub Parts : Type 0
Parts = LineKey × (Uuid × List CellEntry)

-- the parts of a row as the code has them
abbrev pub line_parts : CellLine → Parts
line_parts line = ((line.table, line.id), (line.version, map cell_entry line.cells.items))

-- the cells of this key among the rows of `cell`
abbrev pub entries_of : List Row → LineKey → List CellEntry
entries_of cells key =
    map (λ c. (c.column, c.body)) (filter (λ c. same_key c.key key) (map cell_of cells))

-- the cell that a row is
abbrev pub entry_in : Row → CellEntry
entry_in x = (bytes (column x 3), bytes (column x 4))

-- a head with its cells
abbrev pub head_parts : List Row → Row → Parts
head_parts cells h = (row_key h, (bytes (column h 3), entries_of cells (row_key h)))

-- the row at a place has one more cell
abbrev pub with_cell : ℕ → CellEntry → List Parts → List Parts
with_cell n e [] = []
with_cell zero e (p ∷ ps) = (p.0, (p.1.0, p.1.1 ++ e ∷ [])) ∷ ps
with_cell (suc n) e (p ∷ ps) = p ∷ with_cell n e ps

-- no two heads have one key
abbrev pub AreDistinct : List Row → Type 0
AreDistinct heads = IsAscending (λ a b. row_key a ≢ row_key b) heads

-- no two rows have one number
abbrev pub AreNumbered : List Row → Type 0
AreNumbered rows = IsAscending (λ a b. column a 0 ≢ column b 0) rows
