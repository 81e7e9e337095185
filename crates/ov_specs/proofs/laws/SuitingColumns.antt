-- What an insert makes of its members has just one value for each column of the table.
use Rattle.std.proofs.Common.{◌≡◌, ℕ, List, [], ◌∷◌, Bool, true, false, cond, ◌||◌, Option, Some, None, is_some, if◌then◌else◌, refl, sym, ap, subst, ◌∙◌}
use Rattle.std.specs.Prelude.{Result, Ok, Err}
use Rattle.std.proofs.lemmas.Bool.{and_from}
use Rattle.std.specs.FinMap.{empty, get, insert, contains_key, entries, find, get-empty, get-insert, get-entries}
use Rattle.ov_specs.specs.operations.Errors.{OpError, ConstraintViolation}
use Rattle.ov_specs.specs.rows.RowNames.{is_own_column}
use Rattle.ov_specs.specs.operations.Insert.{fitting_default}
use Rattle.ov_specs.specs.rows.Database.{Columns}
use Rattle.ov_specs.specs.rows.Suits.{is_value_for, column_of_row, suits_column, SuitsTable}
use Rattle.ov_specs.specs.schema.Fitting.{fits, default_of}
use Rattle.ov_specs.specs.schema.SchemaTypes.{Column, Table, kinds_of, name_cmp}
use Rattle.ov_specs.specs.values.Results.{result_and_then}
use Rattle.ov_specs.specs.values.Uuid.{AreUuids, no_names}
use Rattle.ov_specs.specs.values.Value.{Datum, is_of}
use Rattle.ov_specs.proofs.laws.Names.{name_cmp_total, same_name, same_name-is, EachEntry}
use Rattle.ov_specs.proofs.laws.RowReading.{defaults_to}
use Rattle.ov_specs.proofs.laws.SchemaLaws.{default_is_of}

-- ---- one value

pub no_uuids : AreUuids no_names
no_uuids name bytes e = cc

-- a value of the kinds, once it is seen to fit
pub fitted : (column : Column) (v datum : Datum) → is_of (kinds_of column.type_of) v ≡ true → (if fits column.type_of v then Ok v else Err ConstraintViolation) ≡ Ok datum → is_value_for column datum ≡ true
fitted column v datum of = by (fits column.type_of v) refl
  where
    by : (b : Bool) → fits column.type_of v ≡ b → ◌≡◌ {A = Result Datum OpError} (if b then Ok v else Err ConstraintViolation) (Ok datum) → is_value_for column datum ≡ true
    by true is h =
        let same : v ≡ datum = cc in
        subst (λ (d : Datum). is_value_for column d ≡ true) same (and_from (is_of (kinds_of column.type_of) v) (fits column.type_of v) of is)
    by false is h = cc

-- the value is one for the column of this name
abbrev pub IsGiven : Table → List ℕ → Datum → Type 0
IsGiven table name datum = (column : Column) × (column_of_row table name ≡ Some column) × (is_value_for column datum ≡ true)

pub column_is : (table : Table) (name : List ℕ) (column : Column) → is_own_column name ≡ false → get table.columns name ≡ Some column → column_of_row table name ≡ Some column
column_is table name column own is = ap (λ b. cond b None (get table.columns name)) own ∙ is

-- ---- columns to which some are still to come

-- a value that is there is one for its column
abbrev pub suits_so_far : Option Column → Option Datum → Bool
suits_so_far column None = true
suits_so_far column (Some datum) = suits_column column (Some datum)

abbrev pub SuitsSoFar : Table → Columns → Type 0
SuitsSoFar table columns = (name : List ℕ) → suits_so_far (column_of_row table name) (get columns name) ≡ true

pub none_suits : (table : Table) → SuitsSoFar table empty
none_suits table name = ap (suits_so_far (column_of_row table name)) (get-empty name_cmp name)

pub one_more_suits : (table : Table) (columns : Columns) (name : List ℕ) (datum : Datum) → IsGiven table name datum → SuitsSoFar table columns → SuitsSoFar table (insert columns name datum)
one_more_suits table columns name datum (column, kept, value) suits q =
    ap (suits_so_far (column_of_row table q)) (get-insert name_cmp_total columns name datum q) ∙ by (same_name q name) refl
  where
    by : (b : Bool) → same_name q name ≡ b → suits_so_far (column_of_row table q) (cond b (Some datum) (get columns q)) ≡ true
    by true is = ap (λ n. suits_column (column_of_row table n) (Some datum)) (same_name-is q name is) ∙ ap (λ c. suits_column c (Some datum)) kept ∙ value
    by false is = suits q

-- ---- the defaults

default_suits : (column : Column) (datum : Datum) → fitting_default column ≡ Ok datum → is_value_for column datum ≡ true
default_suits column datum = fitted column (default_of column.type_of) datum (default_is_of column.type_of)

-- a value stands at each of these columns but the own ones
abbrev pub HasAll : List (List ℕ × Column) → Columns → Type 0
HasAll cs columns = (name : List ℕ) (column : Column) → is_own_column name ≡ false → find name_cmp name cs ≡ Some column → contains_key columns name ≡ true

-- the columns suit so far, have all that there were before, and a value at each of these
pub record Completes (table : Table) (cs : List (List ℕ × Column)) (before after : Columns) : Type 0 where
  pub suits : SuitsSoFar table after
  pub stays : (name : List ℕ) → contains_key before name ≡ true → contains_key after name ≡ true
  pub has : HasAll cs after

abbrev pub MakesComplete : Table → List (List ℕ × Column) → Columns → Result Columns OpError → Type 0
MakesComplete table cs before (Ok after) = Completes table cs before after
MakesComplete table cs before (Err error) = Unit {0}

-- with a column in front that has its value already, or needs none
pub passed : (table : Table) (c : List ℕ × Column) (cs : List (List ℕ × Column)) (before : Columns) (r : Result Columns OpError) → (is_own_column c.0 || contains_key before c.0) ≡ true
    → MakesComplete table cs before r → MakesComplete table (c ∷ cs) before r
passed table c cs before (Err error) there made = tt
passed table c cs before (Ok after) there made = record { suits = made.suits; stays = made.stays; has = λ name column own found. by name column own (same_name name c.0) refl found }
  where
    there_if : (b d : Bool) → b ≡ false → (b || d) ≡ true → d ≡ true
    there_if false d e h = h
    there_if true d e h = cc

    by : (name : List ℕ) (column : Column) → is_own_column name ≡ false → (b : Bool) → same_name name c.0 ≡ b → cond b (Some c.1) (find name_cmp name cs) ≡ Some column → contains_key after name ≡ true
    by name column own true is found =
        let at : name ≡ c.0 = same_name-is name c.0 is in
        made.stays name (ap (contains_key before) at ∙ there_if (is_own_column c.0) (contains_key before c.0) (sym (ap is_own_column at) ∙ own) there)
    by name column own false is found = made.has name column own found

contains-insert : (columns : Columns) (name : List ℕ) (datum : Datum) (q : List ℕ) → contains_key columns q ≡ true → contains_key (insert columns name datum) q ≡ true
contains-insert columns name datum q h = ap is_some (get-insert name_cmp_total columns name datum q) ∙ by (same_name q name)
  where
    by : (b : Bool) → is_some (cond b (Some datum) (get columns q)) ≡ true
    by true = refl
    by false = h

contains-inserted : (columns : Columns) (name : List ℕ) (datum : Datum) (q : List ℕ) → same_name q name ≡ true → contains_key (insert columns name datum) q ≡ true
contains-inserted columns name datum q is = ap is_some (get-insert name_cmp_total columns name datum q ∙ ap (λ b. cond b (Some datum) (get columns q)) is)

-- with a column in front that was given its default
pub added : (table : Table) (c : List ℕ × Column) (cs : List (List ℕ × Column)) (before : Columns) (datum : Datum) (r : Result Columns OpError)
    → MakesComplete table cs (insert before c.0 datum) r → MakesComplete table (c ∷ cs) before r
added table c cs before datum (Err error) made = tt
added table c cs before datum (Ok after) made = record {
  suits = made.suits;
  stays = λ name there. made.stays name (contains-insert before c.0 datum name there);
  has = λ name column own found. by name column own (same_name name c.0) refl found;
}
  where
    by : (name : List ℕ) (column : Column) → is_own_column name ≡ false → (b : Bool) → same_name name c.0 ≡ b → cond b (Some c.1) (find name_cmp name cs) ≡ Some column → contains_key after name ≡ true
    by name column own true is found = made.stays name (contains-inserted before c.0 datum name is)
    by name column own false is found = made.has name column own found

abbrev pub StandIn : Table → List (List ℕ × Column) → Type 0
StandIn table cs = EachEntry (λ name column. get table.columns name ≡ Some column) cs

-- the column in front has a value, or needs none, or is given its default
column_complete : (table : Table) (c : List ℕ × Column) (cs : List (List ℕ × Column)) (columns : Columns) → get table.columns c.0 ≡ Some c.1 → SuitsSoFar table columns → MakesComplete table cs columns (defaults_to cs columns)
    → ((datum : Datum) → SuitsSoFar table (insert columns c.0 datum) → MakesComplete table cs (insert columns c.0 datum) (defaults_to cs (insert columns c.0 datum)))
    → MakesComplete table (c ∷ cs) columns (defaults_to (c ∷ cs) columns)
column_complete table c cs columns stands suits others next = by (is_own_column c.0) (contains_key columns c.0) refl refl
  where
    by_default : (r : Result Datum OpError) → is_own_column c.0 ≡ false → fitting_default c.1 ≡ r → MakesComplete table (c ∷ cs) columns (result_and_then (λ datum. defaults_to cs (insert columns c.0 datum)) r)
    by_default (Err error) own is = tt
    by_default (Ok datum) own is =
        let given : IsGiven table c.0 datum = (c.1, column_is table c.0 c.1 own stands, default_suits c.1 datum is) in
        added table c cs columns datum (defaults_to cs (insert columns c.0 datum)) (next datum (one_more_suits table columns c.0 datum given suits))

    by : (own there : Bool) → is_own_column c.0 ≡ own → contains_key columns c.0 ≡ there
        → MakesComplete table (c ∷ cs) columns (cond (own || there) (defaults_to cs columns) (result_and_then (λ datum. defaults_to cs (insert columns c.0 datum)) (fitting_default c.1)))
    by true there is_own is_there = passed table c cs columns (defaults_to cs columns) (ap (λ b. b || contains_key columns c.0) is_own) others
    by false true is_own is_there = passed table c cs columns (defaults_to cs columns) (ap (λ b. b || contains_key columns c.0) is_own ∙ is_there) others
    by false false is_own is_there = by_default (fitting_default c.1) is_own refl

pub defaults_complete : (table : Table) (cs : List (List ℕ × Column)) (columns : Columns) → StandIn table cs → SuitsSoFar table columns → MakesComplete table cs columns (defaults_to cs columns)
defaults_complete table [] columns stand suits = record { suits = suits; stays = λ name there. there; has = λ name column own found. cc }
defaults_complete table (c ∷ cs) columns stand suits =
    column_complete table c cs columns stand.0 suits (defaults_complete table cs columns stand.1 suits) (λ datum more. defaults_complete table cs (insert columns c.0 datum) stand.1 more)

-- ---- all columns

none_there : (o : Option Datum) → o ≡ None → is_some o ≡ true → ⊥
none_there None none there = cc
none_there (Some datum) none there = cc

pub complete_suits : (table : Table) (before after : Columns) → Completes table (entries table.columns) before after → SuitsTable table after
complete_suits table before after made name = by (get after name) (column_of_row table name) refl refl (made.suits name)
  where
    is_kept : (column : Column) (b : Bool) → is_own_column name ≡ b → cond b None (get table.columns name) ≡ Some column → (b ≡ false) × (get table.columns name ≡ Some column)
    is_kept column true own h = cc
    is_kept column false own h = (refl, h)

    by : (o : Option Datum) (c : Option Column) → get after name ≡ o → column_of_row table name ≡ c → suits_so_far (column_of_row table name) (get after name) ≡ true → suits_column (column_of_row table name) (get after name) ≡ true
    by (Some datum) c is kept h = ap (suits_column (column_of_row table name)) is ∙ sym (ap (suits_so_far (column_of_row table name)) is) ∙ h
    by None None is kept h = ap (λ k. suits_column k (get after name)) kept ∙ ap (suits_column None) is
    by None (Some column) is kept h =
        let parts = is_kept column (is_own_column name) refl kept in
        absurd (none_there (get after name) is (made.has name column parts.0 (sym (get-entries table.columns name) ∙ parts.1)))

-- the columns of a new row suit their table
abbrev pub MakesRow : Table → Result Columns OpError → Type 0
MakesRow table (Ok columns) = SuitsTable table columns
MakesRow table (Err error) = Unit {0}
