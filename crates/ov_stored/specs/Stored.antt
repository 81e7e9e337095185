-- The row that is stored under a key, and which rows read back from their cells.
use Rattle.std.specs.Prelude.{◌≡◌, ℕ, List, [], ◌∷◌, true, Option, Some, None, option_map}
use Rattle.std.specs.FinMap.{get}
use Rattle.ov_specs.specs.rows.Cells.{cell_body, cells_of}
use Rattle.ov_specs.specs.rows.Database.{Columns, Row, Database}
use Rattle.ov_specs.specs.rows.Held.{Body, OfCells, row_held}
use Rattle.ov_specs.specs.rows.Lines.{LineKey}
use Rattle.ov_specs.specs.rows.Suits.{Suits}
use Rattle.ov_specs.specs.schema.SchemaTypes.{Schema}
use Rattle.ov_specs.specs.values.Uuid.{Uuid}
use Rattle.ov_specs.specs.values.Value.{Datum, Kinds, is_of}
use Rattle.ov_specs.specs.values.Writing.{tree}
use Rattle.ov_specs.specs.wire.Message.{tree_of}

-- what is stored of a row beside its key: its version, and its columns as one text or as cells
abbrev pub RowBody : Type 0
RowBody = Uuid × Body

-- the row that is stored under the key, if it is one of the schema
abbrev pub row_stored : Schema → LineKey → RowBody → Option Row
row_stored schema key stored = option_map (λ r. r.1) (row_held schema (record { key = key; version = stored.0; body = stored.1 }))

-- ---- rows that read back

-- the cells of a row, with its version
abbrev pub row_cells : Row → RowBody
row_cells row = (row.version, OfCells (cells_of row.columns))

-- each row of the database is what its cells read back as
abbrev pub AllReadBack : Schema → Database → Type 0
AllReadBack schema database =
    (key : LineKey) (row : Row) → get database key ≡ Some row → row_stored schema key (row_cells row) ≡ Some row

-- each row of the database is a row of the schema, and what its cells read back as
pub record KeepsRows (schema : Schema) (database : Database) : Type 0 where
  pub suits : Suits schema database
  pub read_back : AllReadBack schema database

-- ---- cells that read back

-- the text of the cell reads as what was written, if that is a value of any kinds
pub record IsCellRead (datum : Datum) : Type 0 where
  pub reads : (kinds : Kinds) → is_of kinds datum ≡ true → tree_of (cell_body datum) ≡ Some (tree datum)

-- so do the texts of all cells of a row
abbrev pub AreCellsRead : Columns → Type 0
AreCellsRead columns = (name : List ℕ) (datum : Datum) → get columns name ≡ Some datum → IsCellRead datum

-- and those of the row that a change puts, if it puts one
abbrev pub IsPutRead : Option Row → Type 0
IsPutRead None = Unit {0}
IsPutRead (Some row) = AreCellsRead row.columns

-- and those of all rows that these changes put
abbrev pub ArePutRead : List (LineKey × Option Row) → Type 0
ArePutRead [] = Unit {0}
ArePutRead (change ∷ changes) = IsPutRead change.1 × ArePutRead changes

-- ---- for private clauses

-- the value with the name of its column
abbrev pub named_datum : List ℕ → Datum → List ℕ × Datum
named_datum name datum = (name, datum)
