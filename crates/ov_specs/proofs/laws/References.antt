-- The references of a database, row by row, and what holds of some row or of each.
use Rattle.std.proofs.Common.{◌≡◌, List, [], ◌∷◌, Bool, true, false, cond, T, ◌||◌, Some, refl, sym, ap, subst, ◌∙◌}
use Rattle.std.specs.List.{list_any, list_all}
use Rattle.std.specs.FinMap.{get, entries, find, is_sorted, entries_sorted, get-entries}
use Rattle.std.specs.Ordering.{eq_by_cmp}
use Rattle.std.proofs.lemmas.Bool.{and_parts, and_from, or_left, or_right}
use Rattle.std.proofs.lemmas.Option.{same_Some}
use Rattle.ov_specs.specs.integrity.References.{RowReference, row_references, references}
use Rattle.ov_specs.specs.rows.Database.{Row, Database}
use Rattle.ov_specs.specs.rows.Lines.{LineKey, line_cmp}
use Rattle.ov_specs.specs.schema.SchemaTypes.{Schema}
use Rattle.ov_specs.proofs.laws.FoundRows.{EachRow, find-later, each_found}
use Rattle.ov_specs.proofs.laws.LineKeys.{same_tied, tied_same}
use Rattle.ov_specs.proofs.laws.Lists.{any-flat_map}
use Rattle.ov_specs.proofs.laws.Truths.{right_holds}

-- ---- rows that are found in a list of them

module _ (test : LineKey × Row → Bool) where
  -- a row of the list passes the test, and is found at its key
  abbrev SomeFound : List (LineKey × Row) → Type 0
  SomeFound rs = (key : LineKey) × (row : Row) × (find line_cmp key rs ≡ Some row) × (test (key, row) ≡ true)

  found_first : (r : LineKey × Row) (rs : List (LineKey × Row)) → find line_cmp r.0 (r ∷ rs) ≡ Some r.1
  found_first r rs = ap (λ b. cond b (Some r.1) (find line_cmp r.0 rs)) (same_tied r.0 r.0 refl)

  any_found : (rs : List (LineKey × Row)) → T (is_sorted line_cmp rs) → list_any test rs ≡ true → SomeFound rs
  any_found [] sorted any = cc
  any_found (r ∷ rs) sorted any = by (test r) refl any (any_found rs (right_holds _ _ sorted))
    where
      by : (b : Bool) → test r ≡ b → (b || list_any test rs) ≡ true → (list_any test rs ≡ true → SomeFound rs) → SomeFound (r ∷ rs)
      by true is any others = (r.0, r.1, found_first r rs, is)
      by false is any others =
          let later : SomeFound rs = others any in
          (later.0, later.1, find-later r rs later.0 later.1 sorted later.2, later.3)

  found_any : (rs : List (LineKey × Row)) (key : LineKey) (row : Row) → find line_cmp key rs ≡ Some row → test (key, row) ≡ true → list_any test rs ≡ true
  found_any [] key row found is = cc
  found_any (r ∷ rs) key row found is = by (eq_by_cmp line_cmp key r.0) refl found (λ later. found_any rs key row later is)
    where
      by : (b : Bool) → eq_by_cmp line_cmp key r.0 ≡ b → cond b (Some r.1) (find line_cmp key rs) ≡ Some row → (find line_cmp key rs ≡ Some row → list_any test rs ≡ true) → (test r || list_any test rs) ≡ true
      by true same found others =
          or_left (test r) (list_any test rs) (subst (λ (p : LineKey × Row). test p ≡ true) (λ i. (tied_same key r.0 same i, same_Some row r.1 (sym found) i)) is)
      by false same found others = or_right (test r) (list_any test rs) (others found)

  found_passes : (rs : List (LineKey × Row)) (key : LineKey) (row : Row) → list_all test rs ≡ true → find line_cmp key rs ≡ Some row → test (key, row) ≡ true
  found_passes [] key row all found = cc
  found_passes (r ∷ rs) key row all found = by (eq_by_cmp line_cmp key r.0) refl found (found_passes rs key row (and_parts (test r) (list_all test rs) all).1)
    where
      by : (b : Bool) → eq_by_cmp line_cmp key r.0 ≡ b → cond b (Some r.1) (find line_cmp key rs) ≡ Some row → (find line_cmp key rs ≡ Some row → test (key, row) ≡ true) → test (key, row) ≡ true
      by true same found others =
          subst (λ (p : LineKey × Row). test p ≡ true) (λ i. (sym (tied_same key r.0 same) i, same_Some r.1 row found i)) (and_parts (test r) (list_all test rs) all).0
      by false same found others = others found

  all_from_each : (rs : List (LineKey × Row)) → EachRow (λ key row. test (key, row) ≡ true) rs → list_all test rs ≡ true
  all_from_each [] each = refl
  all_from_each (r ∷ rs) each = and_from (test r) (list_all test rs) each.0 (all_from_each rs each.1)

  -- ---- rows of a database

  -- if a row passes the test, one that passes stands at some key
  pub any_row_is : (rows : Database) → list_any test (entries rows) ≡ true → (key : LineKey) × (row : Row) × (get rows key ≡ Some row) × (test (key, row) ≡ true)
  any_row_is rows any =
      let found : SomeFound (entries rows) = any_found (entries rows) (entries_sorted rows) any in
      (found.0, found.1, get-entries rows found.0 ∙ found.2, found.3)

  -- and the other way round
  pub row_is_any : (rows : Database) (key : LineKey) (row : Row) → get rows key ≡ Some row → test (key, row) ≡ true → list_any test (entries rows) ≡ true
  row_is_any rows key row has is = found_any (entries rows) key row (sym (get-entries rows key) ∙ has) is

  -- if all rows pass the test, the one at a key does
  pub all_rows_are : (rows : Database) (key : LineKey) (row : Row) → list_all test (entries rows) ≡ true → get rows key ≡ Some row → test (key, row) ≡ true
  all_rows_are rows key row all has = found_passes (entries rows) key row all (sym (get-entries rows key) ∙ has)

  -- and the other way round
  pub are_all_rows : (rows : Database) → ((key : LineKey) (row : Row) → get rows key ≡ Some row → test (key, row) ≡ true) → list_all test (entries rows) ≡ true
  are_all_rows rows all =
      all_from_each (entries rows)
      (each_found (λ key row. test (key, row) ≡ true) (entries rows) (entries_sorted rows) (λ key row found. all key row (get-entries rows key ∙ found)))

-- ---- references

module _ (schema : Schema) (test : RowReference → Bool) (rows : Database) where
  -- a reference that passes the test is one of some row
  pub any_reference_is : list_any test (references schema rows) ≡ true
      → (key : LineKey) × (row : Row) × (get rows key ≡ Some row) × (list_any test (row_references schema (key, row)) ≡ true)
  any_reference_is any =
      any_row_is (λ r. list_any test (row_references schema r)) rows (sym (any-flat_map test (row_references schema) (entries rows)) ∙ any)

  -- and the other way round
  pub reference_is_any : (key : LineKey) (row : Row) → get rows key ≡ Some row → list_any test (row_references schema (key, row)) ≡ true → list_any test (references schema rows) ≡ true
  reference_is_any key row has any =
      any-flat_map test (row_references schema) (entries rows) ∙ row_is_any (λ r. list_any test (row_references schema r)) rows key row has any
