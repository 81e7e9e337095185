-- What a keeper holds in stored format 2: for each row a head, and a cell for each of its columns. In format 1 it holds a line
-- for each row.
use Rattle.std.specs.Prelude.{◌≡◌, ℕ, List, [], ◌∷◌, map, filter, Bool, option_map}
use Rattle.std.specs.FinMap.{FinMap, empty, get, insert, remove, entries, from_entries}
use Rattle.std.specs.List.{list_all, list_any}
use Rattle.ov_specs.specs.rows.Database.{Columns, Row, Database, same_key}
use Rattle.ov_specs.specs.rows.Lines.{LineKey, Lines, line_cmp}
use Rattle.ov_specs.specs.schema.SchemaTypes.{name_cmp}
use Rattle.ov_specs.specs.values.Uuid.{Uuid}
use Rattle.ov_specs.specs.values.Value.{Datum}
use Rattle.ov_specs.specs.values.Writing.{tree}
use Rattle.ov_specs.specs.wire.Frame.{frame}

-- the body of each cell of a row, by the name of its column: no column has two cells
abbrev pub Cells : Type 0
Cells = FinMap name_cmp (List ℕ)

-- a row's version, and its cells
abbrev pub CellLine : Type 0
CellLine = Uuid × Cells

-- the rows that are held
abbrev pub CellLines : Type 0
CellLines = FinMap line_cmp CellLine

-- ---- what is stored of a database

-- the body of a cell: the compact text of a column's written value (RFC 7047, 5.1, <value>)
abbrev pub cell_body : Datum → List ℕ
cell_body datum = frame (tree datum)

-- a cell for each column of a row
abbrev pub cells_of : Columns → Cells
cells_of columns = from_entries (map (λ c. (c.0, cell_body c.1)) (entries columns))

-- a row as it is stored: its version, and its cells
abbrev pub cell_line_of : Row → CellLine
cell_line_of row = (row.version, cells_of row.columns)

-- what is stored of a database
abbrev pub cell_lines_of : Database → CellLines
cell_lines_of database = from_entries (map (λ r. (r.0, cell_line_of r.1)) (entries database))

-- what is held is what is stored of the database's rows
abbrev pub AreCellLinesOf : Database → CellLines → Type 0
AreCellLinesOf database lines = (key : LineKey) → get lines key ≡ option_map cell_line_of (get database key)

-- ---- changes

-- a row is put in place of the one with its key, with all its cells; or it is removed with all of them
pub data CellChange : Type 0 where
  PutCells : (key : LineKey) (line : CellLine) → CellChange
  RemoveCells : (key : LineKey) → CellChange

-- what is held after one change
abbrev pub after_cell_change : CellChange → CellLines → CellLines
after_cell_change (PutCells key line) lines = insert lines key line
after_cell_change (RemoveCells key) lines = remove lines key

-- what is held after these changes, in order
abbrev pub after_cell_changes : List CellChange → CellLines → CellLines
after_cell_changes [] lines = lines
after_cell_changes (change ∷ changes) lines = after_cell_changes changes (after_cell_change change lines)

-- ---- the tables `head` and `cell`

-- a line of `head`: a row's key and its version
pub record Head : Type 0 where
  pub key : LineKey
  pub version : Uuid

-- a line of `cell`: the row's key, the name of the column, and the body
pub record Cell : Type 0 where
  pub key : LineKey
  pub column : List ℕ
  pub body : List ℕ

-- the cells of the row of this key
abbrev pub cells_at : List Cell → LineKey → Cells
cells_at cells key = from_entries (map (λ c. (c.column, c.body)) (filter (λ c. same_key c.key key) cells))

-- what the lines of the two tables are: each head with its cells
abbrev pub cell_lines : List Head → List Cell → CellLines
cell_lines heads cells = from_entries (map (λ h. (h.key, (h.version, cells_at cells h.key))) heads)

-- each cell has its head
abbrev pub have_heads : List Head → List Cell → Bool
have_heads heads cells = list_all (λ c. list_any (λ h. same_key h.key c.key) heads) cells

-- ---- both formats

-- the rows that are held, each whole in one text (format 1), or in cells (format 2)
pub data StoredLines : Type 0 where
  Whole : (lines : Lines) → StoredLines
  InCells : (lines : CellLines) → StoredLines

-- all that is held
pub record Stored : Type 0 where
  pub schema : List ℕ  -- its compact text
  pub lines : StoredLines

-- what is held after a rewrite: this text, and the rows that these changes put, in format 2
abbrev pub rewritten : List ℕ → List CellChange → Stored
rewritten schema changes = record { schema = schema; lines = InCells (after_cell_changes changes empty) }

-- the number of the format
abbrev pub format_of : StoredLines → ℕ
format_of (Whole lines) = 1
format_of (InCells lines) = 2
