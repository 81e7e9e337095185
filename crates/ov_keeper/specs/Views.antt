-- Rows and changes of the code, in terms of the definitions.
use Rattle.std.specs.Prelude.{ℕ, List, map}
use Rattle.std.specs.FinMap.{from_entries}
use Rattle.ov_specs.specs.rows.Cells as cells
use Rattle.ov_specs.specs.rows.Lines as lines
use Rattle.ov_keeper.specs.declared.cell_line.Cell.{Cell}
use Rattle.ov_keeper.specs.declared.cell_line.CellLine.{CellLine}
use Rattle.ov_keeper.specs.declared.change.Change.{Change}
use Rattle.ov_keeper.specs.declared.change.Change.TheVariants.{Put, Remove}
use Rattle.ov_keeper.specs.declared.keeper.Lines.{Lines}
use Rattle.ov_keeper.specs.declared.keeper.Lines.TheVariants.{Whole, InCells}
use Rattle.ov_keeper.specs.declared.line.Line.{Line}

-- ---- rows in format 2

-- a cell, by the name of its column
abbrev pub cell_entry : Cell → List ℕ × List ℕ
cell_entry cell = (cell.column, cell.body)

-- the cells of a row, by the names of their columns
abbrev pub cells_view : List Cell → cells.Cells
cells_view row = from_entries (map cell_entry row)

-- a row, with its key
abbrev pub cell_line_entry : CellLine → lines.LineKey × cells.CellLine
cell_line_entry line = ((line.table, line.id), (line.version, cells_view line.cells.items))

-- a change
abbrev pub change_view : Change → cells.CellChange
change_view (Put line) = cells.PutCells (line.table, line.id) (line.version, cells_view line.cells.items)
change_view (Remove table id) = cells.RemoveCells (table, id)

-- a list of changes, in order
abbrev pub changes_view : List Change → List cells.CellChange
changes_view changes = map change_view changes

-- ---- rows in either format

-- a line of format 1, with its key
abbrev pub line_entry : Line → lines.LineKey × lines.LineBody
line_entry line = ((line.table, line.id), (line.version, line.body))

-- the rows that were loaded, by their keys
abbrev pub lines_view : Lines → cells.StoredLines
lines_view (Whole lines) = cells.Whole (from_entries (map line_entry lines.items))
lines_view (InCells lines) = cells.InCells (from_entries (map cell_line_entry lines.items))
