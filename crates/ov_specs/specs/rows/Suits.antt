-- Which rows a database may have under a schema (RFC 7047, 3.2).
use Rattle.std.specs.Prelude.{◌≡◌, ℕ, ◌&&◌, List, Bool, true, false, if◌then◌else◌, Option, Some, None}
use Rattle.std.specs.FinMap.{get}
use Rattle.ov_specs.specs.rows.Database.{Columns, Row, Database}
use Rattle.ov_specs.specs.rows.Lines.{LineKey}
use Rattle.ov_specs.specs.rows.RowNames.{is_own_column}
use Rattle.ov_specs.specs.schema.Fitting.{fits}
use Rattle.ov_specs.specs.schema.SchemaTypes.{Column, Table, Schema, kinds_of}
use Rattle.ov_specs.specs.values.Uuid.{is_uuid}
use Rattle.ov_specs.specs.values.Value.{Datum, is_of}

-- a value of the column's kinds, within their bounds, that fits the column (RFC 7047, 3.2, <type>)
abbrev pub is_value_for : Column → Datum → Bool
is_value_for column datum = is_of (kinds_of column.type_of) datum && fits column.type_of datum

-- the column of this name that a row has a value for: `_uuid` and `_version` stand beside the row's columns (RFC 7047, 3.2)
abbrev pub column_of_row : Table → List ℕ → Option Column
column_of_row table name = if is_own_column name then None else get table.columns name

-- one value if there is a column, and no value if there is none
abbrev pub suits_column : Option Column → Option Datum → Bool
suits_column None None = true
suits_column None (Some datum) = false
suits_column (Some column) None = false
suits_column (Some column) (Some datum) = is_value_for column datum

-- exactly one value for each column of the table but `_uuid` and `_version`, and no other (RFC 7047, 3.2)
abbrev pub SuitsTable : Table → Columns → Type 0
SuitsTable table columns = (name : List ℕ) → suits_column (column_of_row table name) (get columns name) ≡ true

-- a row of a table of the schema; its key and its version are identifiers (RFC 7047, 3.2)
pub record SuitsRow (schema : Schema) (key : LineKey) (row : Row) : Type 0 where
  pub table : Table
  pub named : get schema.tables key.0 ≡ Some table
  pub id : is_uuid key.1 ≡ true
  pub version : is_uuid row.version ≡ true
  pub columns : SuitsTable table row.columns

-- each row of the database is a row of the schema (RFC 7047, 3.2)
abbrev pub Suits : Schema → Database → Type 0
Suits schema database = (key : LineKey) (row : Row) → get database key ≡ Some row → SuitsRow schema key row
