-- What is asked of the rows of a database, key by key.
use Rattle.std.proofs.Common.{◌≡◌, List, [], ◌∷◌, map, Bool, ◌||◌, ◌&&◌, not, Some, refl, sym, ◌∙◌}
use Rattle.std.specs.FinMap.{get, entries, keys, contains_key}
use Rattle.std.specs.List.{list_any}
use Rattle.ov_specs.specs.integrity.Committed.{is_missing}
use Rattle.ov_specs.specs.integrity.References.{Target, row_targets, row_references, references}
use Rattle.ov_specs.specs.rows.Database.{Row, Database}
use Rattle.ov_specs.specs.rows.Lines.{LineKey}
use Rattle.ov_specs.specs.schema.Schema.{is_some_and}
use Rattle.ov_specs.specs.schema.SchemaTypes.{Schema}
use Rattle.ov_specs.proofs.laws.FoundRows.{EachRow}
use Rattle.ov_specs.proofs.laws.Lists.{any-map, any-flat_map}
use Rattle.ov_carried.proofs.Made.{each_row}
use Rattle.ov_conversion.specs.Asking.{at_key}

-- ---- each row is asked at its key

any_each : (test : LineKey × Row → Bool) (rows : Database) (rs : List (LineKey × Row)) → EachRow (λ key row. get rows key ≡ Some row) rs
    → list_any (at_key test rows) (map (λ r. r.0) rs) ≡ list_any test rs
any_each test rows [] each = refl
any_each test rows (r ∷ rs) each = (λ i. is_some_and (λ row. test (r.0, row)) (each.0 i) || any_each test rows rs each.1 i)

-- what is asked of each key is asked of each row
pub any_at_keys : (test : LineKey × Row → Bool) (rows : Database) → list_any (at_key test rows) (keys rows) ≡ list_any test (entries rows)
any_at_keys test rows = any_each test rows (entries rows) (each_row rows)

-- ---- missing rows

-- a strong reference is to a missing row
abbrev pub target_misses : Database → Target → Bool
target_misses rows target = target.is_strong && not (contains_key rows target.key)

pub row-misses : (schema : Schema) (rows : Database) (r : LineKey × Row) → list_any (is_missing rows) (row_references schema r) ≡ list_any (target_misses rows) (row_targets schema r)
row-misses schema rows r = any-map (is_missing rows) (λ target. record { from = r.0; to = target }) (row_targets schema r)

abbrev pub misses_at : Schema → Database → LineKey → Bool
misses_at schema rows = at_key (λ r. list_any (is_missing rows) (row_references schema r)) rows

pub misses-is : (schema : Schema) (rows : Database) → list_any (misses_at schema rows) (keys rows) ≡ list_any (is_missing rows) (references schema rows)
misses-is schema rows =
    any_at_keys (λ r. list_any (is_missing rows) (row_references schema r)) rows ∙ sym (any-flat_map (is_missing rows) (row_references schema) (entries rows))
