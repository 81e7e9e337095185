-- What of a database is carried over to a newer schema, before the rules of a commit are applied to it.
use Rattle.std.specs.Prelude.{ℕ, List, map, Option, option_map, option_and_then, unwrap_or}
use Rattle.std.specs.FinMap.{get, entries, from_entries}
use Rattle.std.specs.List.{filter_map}
use Rattle.ov_specs.specs.rows.Database.{Columns, Row, Database}
use Rattle.ov_specs.specs.rows.Lines.{LineKey}
use Rattle.ov_specs.specs.rows.RowNames.{row_columns}
use Rattle.ov_specs.specs.rows.Suits.{column_of_row}
use Rattle.ov_specs.specs.rows.Version.{row_now}
use Rattle.ov_specs.specs.schema.Fitting.{default_of}
use Rattle.ov_specs.specs.schema.SchemaTypes.{Column, Table, Schema}
use Rattle.ov_specs.specs.values.Uuid.{Uuid}
use Rattle.ov_specs.specs.values.Value.{Datum}

-- what the row of the old table has in the column of this name, if the old table has that column
abbrev pub old_value : Table → Columns → List ℕ → Option Datum
old_value old columns name = option_and_then (λ column. get columns name) (column_of_row old name)

-- the value of a column of the new table: the row's, if the old table has the column, else the default (RFC 7047, 5.2.1)
abbrev pub carried_value : Table → Columns → List ℕ × Column → Datum
carried_value old columns c = unwrap_or (old_value old columns c.0) (default_of c.1.type_of)

-- the columns of a row of the old table as those of a row of the new one; columns that only the old one has are dropped
abbrev pub carried_columns : Table → Table → Columns → Columns
carried_columns old new columns = from_entries (map (λ c. (c.0, carried_value old columns c)) (row_columns new))

-- The row with its columns in the new table. If these are other columns than before, it gets the version of the conversion;
-- else it keeps its own (RFC 7047, 3.2).
abbrev pub carried_row : Table → Table → Uuid → Database → LineKey × Row → LineKey × Row
carried_row old new version before r = (r.0, row_now before version r.0 (carried_columns old new r.1.columns))

-- the row, if its table is in both schemas; other rows are dropped
abbrev pub carried_if_kept : Schema → Schema → Uuid → Database → LineKey × Row → Option (LineKey × Row)
carried_if_kept old new version before r =
    option_and_then (λ from. option_map (λ to. carried_row from to version before r) (get new.tables r.0.0))
    (get old.tables r.0.0)

-- the rows of tables that both schemas have
abbrev pub carried : Schema → Schema → Uuid → Database → Database
carried old new version before = from_entries (filter_map (carried_if_kept old new version before) (entries before))
