-- The rows of a transaction, and changes made in a list of rows.
use Rattle.std.specs.Prelude.{◌≡◌, ◌≢◌, not, List, [], ◌∷◌, refl, Bool, true, false, Option, Some, None, option_map, option_to_list}
use Rattle.std.specs.declared.cmp.Ordering.{Ordering}
use Rattle.std.specs.Ordering.{eq_by_cmp}
use Rattle.std.specs.Coded.{Coded, code_by, coded×}
use Rattle.std.specs.FinMap.{get, entries, put}
use Rattle.std.specs.FinMap.Entries.{where_key}
use Rattle.ov_stored.specs.Changing.{Delta}
use Rattle.ov_rows.specs.Lending.{lent_row_of}
use Rattle.ov_rows.specs.Resident.{database_code}
use Rattle.ov_rows.specs.declared.row_view.RowView.{RowView}
use Rattle.ov_specs.specs.operations.Conditions.{Condition}
use Rattle.ov_specs.specs.operations.MatchingRows.{meets_all}
use Rattle.ov_specs.specs.rows.Database.{Columns, Database, Row, same_columns}
use Rattle.ov_specs.specs.rows.Lines.{LineKey}
use Rattle.ov_specs.specs.values.Uuid.{Uuid}

-- ---- the rows of a transaction

-- the rows before a transaction, and as it has made them so far
pub record Stage : Type 0 where
  pub before : Database
  pub now : Database

-- a stage as a pair
abbrev pub stage_code : Coded Stage
stage_code =
    code_by (Database × Database) (coded× database_code database_code) (λ s. (s.before, s.now))
    (λ p. record { before = p.0; now = p.1 }) (λ _. refl)

-- no change leaves its key as it was before
abbrev pub Differs : Delta → Database → Type 0
Differs delta before = (key : LineKey) (change : Option Row) → get delta key ≡ Some change → change ≢ get before key

-- there is a row, and it has these columns
abbrev pub has_columns : Columns → Option Row → Bool
has_columns columns None = false
has_columns columns (Some row) = same_columns (entries row.columns) (entries columns)

-- what is at a key, with the key
abbrev pub entry_if_found : {K X : Type 0} → K → Option X → Option (K × X)
entry_if_found key found = option_map (λ x. (key, x)) found

-- ---- the rows that meet conditions

-- every row that meets all conditions has this identifier
abbrev pub AreOnlyOf : Uuid → List Condition → Type 0
AreOnlyOf id conditions = (row : LineKey × Row) → meets_all conditions row ≡ true → row.0.1 ≡ id

-- a borrowed row meets all conditions, whatever its table
abbrev pub meets : List Condition → RowView → Bool
meets conditions r = meets_all conditions (lent_row_of [] r)

-- ---- changes made in an ascending list of rows, by keys of any kind

-- the row that a change makes, if it makes one
abbrev pub row_made : {K : Type 0} → K × Option Row → List (K × Row)
row_made change = option_to_list (option_map (λ row. (change.0, row)) change.1)

-- the row in place of the one of its key, or none in its place
abbrev pub place : {K : Type 0} → (K → K → Ordering) → K → Option Row → List (K × Row) → List (K × Row)
place order key (Some row) rows = put order key row rows
place order key None rows = where_key order (λ other. not (eq_by_cmp order key other)) rows

-- the rows after these changes, applied first to last
abbrev pub place_each : {K : Type 0} → (K → K → Ordering) → List (K × Option Row) → List (K × Row) → List (K × Row)
place_each order [] rows = rows
place_each order (change ∷ changes) rows = place_each order changes (place order change.0 change.1 rows)
