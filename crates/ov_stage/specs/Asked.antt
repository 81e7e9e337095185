-- What conditions ask for in the columns of an index, and the rows found there.
use Rattle.std.specs.Prelude.{◌≡◌, true, false, Bool, ℕ, List, Option, Some, IfSome, option_map, option_to_list, slice_get}
use Rattle.std.specs.FinMap.{get, entries}
use Rattle.std.specs.List.{filter, flat_map, list_any}
use Rattle.std.specs.Ordering.{eq_by_cmp}
use Rattle.std.specs.Str.{bytes_eq}
use Rattle.ov_stored.specs.Changing.{Delta, with_row_changes}
use Rattle.ov_index.specs.Changing.{are_any_alike}
use Rattle.ov_index.specs.IndexKeys.{values_in}
use Rattle.ov_index.specs.Indexing.{AreIndexesOf}
use Rattle.ov_rows.specs.Nested.{id_cmp}
use Rattle.ov_rows.specs.Resident.{database_of}
use Rattle.ov_specs.specs.operations.Conditions.{Condition}
use Rattle.ov_specs.specs.operations.MatchingRows.{meets_all}
use Rattle.ov_specs.specs.rows.Database.{Database, Row}
use Rattle.ov_specs.specs.rows.Lines.{LineKey}
use Rattle.ov_specs.specs.schema.SchemaTypes.{Table}
use Rattle.ov_specs.specs.values.Uuid.{Uuid}
use Rattle.ov_specs.specs.values.Value.{Datum}
use Rattle.ov_stage.specs.Staging.{entry_if_found}
use Rattle.ov_stage.specs.declared.indexed.Indexed.{Indexed}

-- ---- what every row has that meets all conditions

-- it has this value in the column of this name
abbrev pub IsValueOf : List Condition → List ℕ → Datum → Type 0
IsValueOf conditions column value =
    (row : LineKey × Row) → meets_all conditions row ≡ true → get row.1.columns column ≡ Some value

-- it has these values in the columns of the index
abbrev pub AreValuesOf : List Condition → List (List ℕ) → List Datum → Type 0
AreValuesOf conditions index values =
    (row : LineKey × Row) → meets_all conditions row ≡ true → values_in index row.1.columns ≡ values

-- the table has an index of this number, and it has these values in the columns of that index
abbrev pub AreValuesAt : List Condition → Table → ℕ → List Datum → Type 0
AreValuesAt conditions table number values =
    (row : LineKey × Row) → meets_all conditions row ≡ true
    → option_map (λ index. values_in index row.1.columns) (slice_get table.indexes number) ≡ Some values

-- ---- rows that include them

-- the identifier is one of these
abbrev pub has_id : List Uuid → Uuid → Bool
has_id ids id = list_any (eq_by_cmp id_cmp id) ids

-- every row of the table of this name that meets all conditions has one of these identifiers
abbrev pub AreIdsOf : List Condition → Database → List ℕ → List Uuid → Type 0
AreIdsOf conditions rows table ids =
    (id : Uuid) (row : Row) → get rows (table, id) ≡ Some row → meets_all conditions ((table, id), row) ≡ true
    → has_id ids id ≡ true

-- the rows of these identifiers that exist in the table of this name
abbrev pub rows_of_ids : Database → List ℕ → List Uuid → List (LineKey × Row)
rows_of_ids rows table ids = flat_map (λ id. option_to_list (entry_if_found (table, id) (get rows (table, id)))) ids

-- if there are indexes, they are those of the rows, and no two of the rows are equal in one
abbrev pub AreIndexesIf : Database → Option Indexed → Type 0
AreIndexesIf rows indexed =
    IfSome indexed (λ i. AreIndexesOf i.schema.now rows i.indexes.now × (are_any_alike i.schema.now rows ≡ false))

-- ---- changes of one table

-- the changes of the table of this name
abbrev pub changes_of : Delta → List ℕ → List (LineKey × Option Row)
changes_of delta table = filter (λ c. bytes_eq c.0.0 table) (entries delta)

-- rows of the table of this name after its changes
abbrev pub rows_after : Delta → List ℕ → List (LineKey × Row) → List (LineKey × Row)
rows_after delta table rows = entries (with_row_changes (changes_of delta table) (database_of rows))
