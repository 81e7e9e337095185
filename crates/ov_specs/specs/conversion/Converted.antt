-- What a stored database is converted to under a newer schema, or why it is not (this server's; the RFC has no conversion).
use Rattle.std.specs.Prelude.{ℕ, ◌&&◌, not, List, if◌then◌else◌, Bool, Option, Some, None, is_none, option_and_then, Result, Ok, Err}
use Rattle.std.specs.FinMap.{get, entries}
use Rattle.std.specs.List.{list_any}
use Rattle.std.specs.Result.{result_ok}
use Rattle.std.specs.Str.{bytes_eq}
use Rattle.serde_json.specs.Written.{compact_text}
use Rattle.ov_specs.specs.conversion.Carried.{carried}
use Rattle.ov_specs.specs.integrity.Committed.{committed, is_whole}
use Rattle.ov_specs.specs.integrity.Limits.{rows_of}
use Rattle.ov_specs.specs.rows.Cells.{StoredLines, InCells, Stored, cell_lines_of}
use Rattle.ov_specs.specs.rows.Database.{Database}
use Rattle.ov_specs.specs.rows.Held.{held}
use Rattle.ov_specs.specs.rows.RowNames.{row_columns}
use Rattle.ov_specs.specs.rows.Suits.{column_of_row}
use Rattle.ov_specs.specs.schema.Fitting.{fits, default_of}
use Rattle.ov_specs.specs.schema.Newer.{newer_than}
use Rattle.ov_specs.specs.schema.SameType.{same_type}
use Rattle.ov_specs.specs.schema.Schema.{accepted, is_empty, is_some_and}
use Rattle.ov_specs.specs.schema.SchemaTypes.{Column, Table, Schema}
use Rattle.ov_specs.specs.values.Results.{result_map_err}
use Rattle.ov_specs.specs.values.Uuid.{Uuid}
use Rattle.ov_specs.specs.wire.Message.{tree_of}

-- why what is stored is not opened under a schema; the first that applies is the answer
pub data OpenRefusal : Type 0 where
  BadBody : OpenRefusal  -- the stored text is no accepted schema, or a line is no row of the stored schema
  SchemaDiffers : OpenRefusal  -- the schema has another name than the stored one, or is not newer
  Broken : OpenRefusal  -- a commit would refuse or change the stored database
  TypeChanged : OpenRefusal  -- a column of both schemas has two types
  NotConvertible : OpenRefusal  -- the rows that are carried over do not fit the new schema, or a commit refuses them

-- ---- what a new schema may not change

-- the old table has the column, with another type
abbrev pub is_of_changed_type : Table → List ℕ × Column → Bool
is_of_changed_type old c = is_some_and (λ column. not (same_type column.type_of c.1.type_of)) (column_of_row old c.0)

-- such a column is in a table of both schemas (RFC 7047, 3.2, <type>)
abbrev pub has_changed_type : Schema → Schema → Bool
has_changed_type old new =
    list_any (λ t. is_some_and (λ table. list_any (is_of_changed_type table) (row_columns t.1)) (get old.tables t.0))
    (entries new.tables)

-- ---- what the rows of a table need

-- a column that the old table lacks, and whose default does not fit it (RFC 7047, 5.2.1)
abbrev pub lacks_default : Table → List ℕ × Column → Bool
lacks_default old c = is_none (column_of_row old c.0) && not (fits c.1.type_of (default_of c.1.type_of))

-- the table has a row
abbrev pub has_row : Database → List ℕ → Bool
has_row rows name = not (is_empty (rows_of name rows))

-- a table that has a row gets such a column
abbrev pub gets_unfit_default : Schema → Schema → Database → Bool
gets_unfit_default old new rows =
    list_any
    (λ t. has_row rows t.0 && is_some_and (λ table. list_any (lacks_default table) (row_columns t.1)) (get old.tables t.0))
    (entries new.tables)

-- ---- the conversion

-- a database of the old schema under the new one: a commit, under the new schema, of what is carried over
abbrev pub converted_rows : Schema → Schema → Uuid → Database → Result Database OpenRefusal
converted_rows old new version before =
    if gets_unfit_default old new before then Err NotConvertible
    else result_map_err (λ error. NotConvertible) (committed new before version (carried old new version before))

-- A database of the old schema as one of the new one. The new schema has the old one's name, and is newer. The database is
-- as a commit under the old schema leaves it. Columns that both schemas have keep their types.
abbrev pub converted : Schema → Schema → Uuid → Database → Result Database OpenRefusal
converted old new version before =
    if not (bytes_eq old.name new.name && newer_than new old) then Err SchemaDiffers
    else if not (is_whole old before) then Err Broken
    else if has_changed_type old new then Err TypeChanged
    else converted_rows old new version before

-- ---- what is stored

-- the schema that a stored text is; any text of an accepted schema will do
abbrev pub schema_stored : List ℕ → Option Schema
schema_stored text = option_and_then (λ d. result_ok (accepted d)) (tree_of text)

-- the rows that are stored, or that there are none
abbrev pub if_held : Option Database → (Database → Result Database OpenRefusal) → Result Database OpenRefusal
if_held None next = Err BadBody
if_held (Some rows) next = next rows

-- the rows that are stored under the schema itself
abbrev pub opened : Schema → Database → Result Database OpenRefusal
opened schema rows = if is_whole schema rows then Ok rows else Err Broken

-- the rows that are stored under the old schema, as rows of the new one
abbrev pub converted_from : Option Schema → Schema → Uuid → StoredLines → Result Database OpenRefusal
converted_from None new version lines = Err BadBody
converted_from (Some old) new version lines = if_held (held old lines) (converted old new version)

-- The database that is opened under the schema: the one that is stored, if the schema's own text is stored; else that one
-- converted, in a commit of this version.
abbrev pub opening_of : Schema → Uuid → Stored → Result Database OpenRefusal
opening_of schema version stored =
    if bytes_eq stored.schema (compact_text schema.tree) then if_held (held schema stored.lines) (opened schema)
    else converted_from (schema_stored stored.schema) schema version stored.lines

-- what is stored then: the schema's text, and the rows in format 2
abbrev pub stored_of : Schema → Database → Stored
stored_of schema rows = record { schema = compact_text schema.tree; lines = InCells (cell_lines_of rows) }
