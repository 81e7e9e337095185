-- A table's columns, each with its stored value, are the same if they are added one by one; and the row with them.
use Rattle.std.proofs.Common.{◌≡◌, ℕ, List, [], ◌∷◌, Bool, true, false, cond, T, Option, Some, None, option_map, option_and_then, refl, sym, ap, subst, ◌∙◌}
use Rattle.std.specs.Prelude.{not, if◌then◌else◌, Result, Ok, Err}
use Rattle.std.specs.FinMap.{empty, is_sorted, get, insert, entries, entries_sorted, from_entries}
use Rattle.std.specs.FinMap.Entries.{below_all}
use Rattle.ov_specs.specs.operations.GivenRow.{with_values}
use Rattle.ov_specs.specs.rows.Database.{Columns, Row}
use Rattle.ov_specs.specs.rows.Held as stored
use Rattle.ov_specs.specs.rows.Held.{Body, columns_stored, is_stored_as, row_held, row_if_stored, row_of_body, value_held}
use Rattle.ov_specs.specs.rows.Lines.{LineKey}
use Rattle.ov_specs.specs.rows.RowNames.{is_own_column, without_own_columns}
use Rattle.ov_specs.specs.schema.SchemaTypes.{Column, Table, Schema, name_cmp}
use Rattle.ov_specs.specs.values.Results.{all_results, in_front}
use Rattle.ov_specs.specs.values.Uuid.{Uuid}
use Rattle.ov_specs.specs.values.Value.{Datum}
use Rattle.ov_specs.proofs.laws.PutValues.{with_values-empty}
use Rattle.ov_specs.proofs.laws.Truths.{both_hold, left_holds, right_holds}
use Rattle.ov_stored.specs.declared.fault.OpenFault.{OpenFault}
use Rattle.ov_stored.specs.declared.fault.OpenFault.TheVariants.{SchemaDiffers, BadBody, Broken, TypeChanged, NotConvertible, Keeping}
use Rattle.ov_stored.specs.Loading.{IsNotLoaded, IsLoaded}
use Rattle.ov_stored.specs.Stored.{RowBody, named_datum, row_stored}

-- ---- one value

-- a value that was read, under the name of its column
pub named_loaded : (name : List ℕ) (o : Option Datum) (result : Result Datum OpenFault) → IsLoaded (λ datum. datum) o result → IsLoaded (named_datum name) (option_map (named_datum name) o) result
named_loaded name o (Ok datum) is = ap (option_map (named_datum name)) is
named_loaded name o (Err fault) is = not_loaded fault is
  where
    not_loaded : (why : OpenFault) → IsNotLoaded o why → IsNotLoaded (option_map (named_datum name) o) why
    not_loaded BadBody is = ap (option_map (named_datum name)) is
    not_loaded (Keeping cause) is = is
    not_loaded SchemaDiffers is = is
    not_loaded Broken is = is
    not_loaded TypeChanged is = is
    not_loaded NotConvertible is = is

-- ---- all values

abbrev Values : Type 0
Values = List (List ℕ × Datum)

-- these columns added to those before, each with its stored value, except for the columns that every row has by itself
abbrev pub added_by : Body → List (List ℕ × Column) → Columns → Option Columns
added_by body [] columns = Some columns
added_by body (c ∷ cs) columns =
    if is_own_column c.0 then added_by body cs columns
    else option_and_then (λ v. added_by body cs (insert columns v.0 v.1)) (value_held body c)

module _ (body : Body) where
  abbrev held_all : List (List ℕ × Column) → Option Values
  held_all cs = all_results (value_held body) (without_own_columns cs)

  -- ---- the values that were added

  one_more : (c : List ℕ × Column) (cs : List (List ℕ × Column)) (before : Columns) → ((more : Columns) → added_by body cs more ≡ option_map (λ vs. with_values vs more) (held_all cs))
      → added_by body (c ∷ cs) before ≡ option_map (λ vs. with_values vs before) (held_all (c ∷ cs))
  one_more c cs before next = by (is_own_column c.0)
    where
      by_rest : (v : List ℕ × Datum) (r : Option Values) → option_map (λ vs. with_values vs (insert before v.0 v.1)) r ≡ option_map (λ vs. with_values vs before) (in_front (Some v) r)
      by_rest v None = refl
      by_rest v (Some vs) = refl

      by_value : (o : Option (List ℕ × Datum)) → option_and_then (λ v. added_by body cs (insert before v.0 v.1)) o ≡ option_map (λ vs. with_values vs before) (in_front o (held_all cs))
      by_value None = refl
      by_value (Some v) = next (insert before v.0 v.1) ∙ by_rest v (held_all cs)

      by : (b : Bool) → cond b (added_by body cs before) (option_and_then (λ v. added_by body cs (insert before v.0 v.1)) (value_held body c))
          ≡ option_map (λ vs. with_values vs before) (all_results (value_held body) (cond (not b) (c ∷ without_own_columns cs) (without_own_columns cs)))
      by true = next before
      by false = by_value (value_held body c)

  added_all : (cs : List (List ℕ × Column)) (before : Columns) → added_by body cs before ≡ option_map (λ vs. with_values vs before) (held_all cs)
  added_all [] before = refl
  added_all (c ∷ cs) before = one_more c cs before (λ more. added_all cs more)

  -- ---- their names ascend

  -- what holds of the values of a column in front and of the others
  in_both : (c : List ℕ × Column) (cs : List (List ℕ × Column)) (vs : Values) (P : Values → Type 0) → held_all (c ∷ cs) ≡ Some vs → ((ws : Values) → held_all cs ≡ Some ws → P ws)
      → ((ws : Values) (datum : Datum) → held_all cs ≡ Some ws → P ((c.0, datum) ∷ ws)) → P vs
  in_both c cs vs P h others more = by (is_own_column c.0) h
    where
      by_rest : (datum : Datum) (r : Option Values) → held_all cs ≡ r → in_front (Some (c.0, datum)) r ≡ Some vs → P vs
      by_rest datum None is k = cc
      by_rest datum (Some ws) is k = let same : (c.0, datum) ∷ ws ≡ vs = cc in subst P same (more ws datum is)

      by_value : (o : Option Datum) → in_front (option_map (λ datum. (c.0, datum)) o) (held_all cs) ≡ Some vs → P vs
      by_value None k = cc
      by_value (Some datum) k = by_rest datum (held_all cs) refl k

      by : (b : Bool) → all_results (value_held body) (cond (not b) (c ∷ without_own_columns cs) (without_own_columns cs)) ≡ Some vs → P vs
      by true k = others vs k
      by false k = by_value _ k

  below : (name : List ℕ) (cs : List (List ℕ × Column)) (vs : Values) → held_all cs ≡ Some vs → T (below_all name_cmp name cs) → T (below_all name_cmp name vs)
  below name [] [] h k = tt
  below name [] (v ∷ vs) h k = cc
  below name (c ∷ cs) vs h k =
      in_both c cs vs (λ ws. T (below_all name_cmp name ws)) h (λ ws is. below name cs ws is (right_holds _ _ k)) (λ ws datum is. both_hold _ _ (left_holds _ _ k) (below name cs ws is (right_holds _ _ k)))

  ascend : (cs : List (List ℕ × Column)) (vs : Values) → held_all cs ≡ Some vs → T (is_sorted name_cmp cs) → T (is_sorted name_cmp vs)
  ascend [] [] h k = tt
  ascend [] (v ∷ vs) h k = cc
  ascend (c ∷ cs) vs h k =
      in_both c cs vs (λ ws. T (is_sorted name_cmp ws)) h (λ ws is. ascend cs ws is (right_holds _ _ k)) (λ ws datum is. both_hold _ _ (below c.0 cs ws is (left_holds _ _ k)) (ascend cs ws is (right_holds _ _ k)))

  -- ---- all of them

  pub columns_added : (table : Table) → columns_stored body table ≡ added_by body (entries table.columns) empty
  columns_added table = sym (added_all (entries table.columns) empty ∙ by (held_all (entries table.columns)) refl)
    where
      by : (o : Option Values) → held_all (entries table.columns) ≡ o → option_map (λ vs. with_values vs (empty {R = name_cmp})) o ≡ option_map from_entries o
      by None is = refl
      by (Some vs) is = ap Some (with_values-empty vs (ascend (entries table.columns) vs is (entries_sorted table.columns)))

-- ---- the row

-- without the columns there is no row
pub no_row : (table : Table) (version : Uuid) (body : Body) (fault : OpenFault) → IsNotLoaded (columns_stored body table) fault → IsNotLoaded (row_of_body table version body) fault
no_row table version body BadBody is = ap (option_and_then (row_if_stored version body)) is
no_row table version body (Keeping fault) is = is
no_row table version body SchemaDiffers is = is
no_row table version body Broken is = is
no_row table version body TypeChanged is = is
no_row table version body NotConvertible is = is

-- with them there is one if they are stored as exactly this
pub row_if : (table : Table) (version : Uuid) (body : Body) (columns : Columns) (b : Bool) → columns_stored body table ≡ Some columns → is_stored_as columns body ≡ b
    → row_of_body table version body ≡ cond b (Some (record { version = version; columns = columns })) None
row_if table version body columns b stored is =
    ap (option_and_then (row_if_stored version body)) stored ∙ ap (λ t. cond t (Some (record { version = version; columns = columns })) None) is

-- ---- the row under a key

module _ (schema : Schema) where
  without_key : (key : LineKey) (o : Option Row) → option_map (λ (r : LineKey × Row). r.1) (option_map (λ row. (key, row)) o) ≡ o
  without_key key None = refl
  without_key key (Some row) = refl

  -- what is stored under a key is a row of the key's table
  pub row_stored-is : (key : LineKey) (body : RowBody) → row_stored schema key body ≡ option_and_then (λ table. row_of_body table body.0 body.1) (get schema.tables key.0)
  row_stored-is key body = without_key key (option_and_then (λ table. row_of_body table body.0 body.1) (get schema.tables key.0))

  -- a line is the row that is stored under its key
  pub row_held-is : (line : stored.Line) → row_held schema line ≡ option_map (λ row. (line.key, row)) (row_stored schema line.key (line.version, line.body))
  row_held-is line = ap (option_map (λ row. (line.key, row))) (sym (row_stored-is line.key (line.version, line.body)))
