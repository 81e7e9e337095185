-- Which rows are kept: a row of a table that is no root table goes if no other row keeps it (RFC 7047, 3.2, <table-schema>,
-- isRoot).
use Rattle.std.specs.Prelude.{◌≡◌, ℕ, zero, suc, ◌&&◌, ◌||◌, not, List, map, filter, Bool, true, Some}
use Rattle.std.specs.List.{list_any}
use Rattle.std.specs.FinMap.{get, entries, len}
use Rattle.ov_specs.specs.integrity.References.{RowReference, references}
use Rattle.ov_specs.specs.operations.MatchingRows.{without_rows}
use Rattle.ov_specs.specs.rows.Database.{Row, Database, same_key}
use Rattle.ov_specs.specs.rows.Lines.{LineKey}
use Rattle.ov_specs.specs.schema.Schema.{is_some_and}
use Rattle.ov_specs.specs.schema.SchemaTypes.{Schema}

-- ---- what is kept

-- the reference keeps the row of this key: it is a strong one, of a different row
abbrev pub supports : LineKey → RowReference → Bool
supports key r = r.to.is_strong && same_key r.to.key key && not (same_key r.from key)

-- a row of a root table, which needs no support
abbrev pub is_in_root_table : Schema → LineKey → Bool
is_in_root_table schema key = is_some_and (λ table. table.is_root) (get schema.tables key.0)

-- the row of this key is of a root table, or a different one of these rows refers to it strongly
abbrev pub is_supported : Schema → Database → LineKey → Bool
is_supported schema rows key = is_in_root_table schema key || list_any (supports key) (references schema rows)

-- Each of these rows is of a root table, or a different one of them refers to it strongly: so two rows may support each other,
-- and no row supports itself.
abbrev pub AreSupported : Schema → Database → Type 0
AreSupported schema rows = (key : LineKey) (row : Row) → get rows key ≡ Some row → is_supported schema rows key ≡ true

-- these are some of all rows
abbrev pub AreSome : Database → Database → Type 0
AreSome all rows = (key : LineKey) (row : Row) → get rows key ≡ Some row → get all key ≡ Some row

-- The rows that are kept of all: each that belongs to some rows that are supported. They are the greatest such set.
pub record IsGreatestSupported (schema : Schema) (all kept : Database) : Type 0 where
  pub some : AreSome all kept
  pub supported : AreSupported schema kept
  pub greatest : (rows : Database) → AreSome all rows → AreSupported schema rows → AreSome kept rows

-- ---- and how they are found

-- the keys of the rows without support
abbrev pub unsupported : Schema → Database → List LineKey
unsupported schema rows = map (λ r. r.0) (filter (λ r. not (is_supported schema rows r.0)) (entries rows))

-- the rows that are left after all rows without support are removed n times
abbrev pub kept_after : ℕ → Schema → Database → Database
kept_after zero schema rows = rows
kept_after (suc n) schema rows = kept_after n schema (without_rows (unsupported schema rows) rows)

-- The rows that are kept. Each turn but the last removes at least one row, so there are no more turns than rows.
abbrev pub kept : Schema → Database → Database
kept schema rows = kept_after (len rows) schema rows
