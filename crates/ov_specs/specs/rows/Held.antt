-- The database that stored lines stand for, in either format, if each of them is a row of the schema.
use Rattle.std.specs.Prelude.{ℕ, List, ◌&&◌, map, if◌then◌else◌, Bool, Option, Some, None, option_map, option_and_then}
use Rattle.std.specs.Cmp.Lexicographic.{pointwise}
use Rattle.std.specs.FinMap.{get, entries, from_entries}
use Rattle.std.specs.Str.{bytes_eq}
use Rattle.serde_json.specs.Data.{Data}
use Rattle.serde_json.specs.Find as find
use Rattle.ov_specs.specs.rows.Cells.{Cells, cells_of, StoredLines, Whole, InCells}
use Rattle.ov_specs.specs.rows.Database.{Columns, Row, Database, object_of, written_column}
use Rattle.ov_specs.specs.rows.Lines.{LineKey}
use Rattle.ov_specs.specs.rows.RowNames.{row_columns}
use Rattle.ov_specs.specs.schema.Fitting.{fits}
use Rattle.ov_specs.specs.schema.SchemaTypes.{Column, Table, Schema, kinds_of}
use Rattle.ov_specs.specs.values.Reading.{Reading, Reads, Unreadable, Clashing, reads}
use Rattle.ov_specs.specs.values.Results.{all_results}
use Rattle.ov_specs.specs.values.Uuid.{Uuid, no_names}
use Rattle.ov_specs.specs.values.Value.{Datum}
use Rattle.ov_specs.specs.wire.Frame.{frame}
use Rattle.ov_specs.specs.wire.Message.{tree_of}

-- ---- one line

-- the columns of a row as they are stored: one text (format 1), or a cell for each (format 2)
pub data Body : Type 0 where
  OneText : (text : List ℕ) → Body
  OfCells : (cells : Cells) → Body

-- the tree that is stored for the column of this name: a member of the text, or the column's cell
abbrev pub tree_stored : Body → List ℕ → Option Data
tree_stored (OneText text) name = option_and_then (find.get name) (tree_of text)
tree_stored (OfCells cells) name = option_and_then tree_of (get cells name)

-- the value that was read, if it fits the column (RFC 7047, 3.2, <type>)
abbrev pub if_fits : Column → Reading Datum → Option Datum
if_fits column (Reads datum) = if fits column.type_of datum then Some datum else None
if_fits column Unreadable = None
if_fits column Clashing = None

-- the value that is stored for a column, with the column's name (RFC 7047, 5.1, <value>)
abbrev pub value_held : Body → List ℕ × Column → Option (List ℕ × Datum)
value_held body c =
    option_map (λ datum. (c.0, datum))
    (option_and_then (λ d. if_fits c.1 (reads no_names (kinds_of c.1.type_of) d)) (tree_stored body c.0))

-- the same column, with the same text
abbrev pub same_cell : List ℕ × List ℕ → List ℕ × List ℕ → Bool
same_cell a b = bytes_eq a.0 b.0 && bytes_eq a.1 b.1

-- the columns are stored as exactly this: nothing else is in it, not even a space
abbrev pub is_stored_as : Columns → Body → Bool
is_stored_as columns (OneText text) = bytes_eq (frame (object_of (map written_column (entries columns)))) text
is_stored_as columns (OfCells cells) = pointwise same_cell (entries (cells_of columns)) (entries cells)

-- the row of this version and these columns, if they are stored as exactly this
abbrev pub row_if_stored : Uuid → Body → Columns → Option Row
row_if_stored version body columns =
    if is_stored_as columns body then Some (record { version = version; columns = columns }) else None

-- the columns of a row of the table with the values that are stored for them, if each has one; more may be stored
abbrev pub columns_stored : Body → Table → Option Columns
columns_stored body table = option_map from_entries (all_results (value_held body) (row_columns table))

-- the row of the table that this is: it has a fitting value for each column, and nothing else
abbrev pub row_of_body : Table → Uuid → Body → Option Row
row_of_body table version body = option_and_then (row_if_stored version body) (columns_stored body table)

-- ---- all lines

-- a line: the key of a row, its version, and what is stored of its columns
pub record Line : Type 0 where
  pub key : LineKey
  pub version : Uuid
  pub body : Body

-- the lines of either format, by their keys, ascending
abbrev pub lines_held : StoredLines → List Line
lines_held (Whole lines) = map (λ l. record { key = l.0; version = l.1.0; body = OneText l.1.1 }) (entries lines)
lines_held (InCells lines) = map (λ l. record { key = l.0; version = l.1.0; body = OfCells l.1.1 }) (entries lines)

-- the row that a line is, with its key, if the schema has its table
abbrev pub row_held : Schema → Line → Option (LineKey × Row)
row_held schema line =
    option_map (λ row. (line.key, row))
    (option_and_then (λ table. row_of_body table line.version line.body) (get schema.tables line.key.0))

-- the database that the lines stand for; None if one of them is no row of the schema
abbrev pub held : Schema → StoredLines → Option Database
held schema lines = option_map from_entries (all_results (row_held schema) (lines_held lines))
