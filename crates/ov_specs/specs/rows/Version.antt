-- Which version a row has, by the database as it was before the transaction (RFC 7047, 3.2).
use Rattle.std.specs.Prelude.{if◌then◌else◌, Option, Some, None}
use Rattle.std.specs.FinMap.{get, entries}
use Rattle.ov_specs.specs.rows.Database.{Columns, Row, Database, same_columns}
use Rattle.ov_specs.specs.rows.Lines.{LineKey}
use Rattle.ov_specs.specs.values.Uuid.{Uuid}

-- The version of the row that was there before, if it has the same columns; else this one. A row that was not there, or has
-- changed, gets a version that no row had before (RFC 7047, 3.2).
abbrev pub version_over : Option Row → Uuid → Columns → Uuid
version_over None version columns = version
version_over (Some row) version columns = if same_columns (entries row.columns) (entries columns) then row.version else version

-- The row with these columns at this key, in a transaction of this version on this database. It has the transaction's
-- version while it differs from what it was before the transaction, or was not there then; else its former one (RFC 7047,
-- 3.2).
abbrev pub row_now : Database → Uuid → LineKey → Columns → Row
row_now before version key columns = record { version = version_over (get before key) version columns; columns = columns }
