-- The rows of a database by their keys: those that pass a test, as a set of keys has them, and each one as it is found.
use Rattle.std.proofs.Common.{◌≡◌, List, [], ◌∷◌, map, filter, Bool, true, false, cond, T, Option, Some, None, is_some, refl, sym, ap, ◌∙◌}
use Rattle.std.specs.Prelude.{unwrap_or}
use Rattle.std.specs.FinMap.{find, empty, get-empty, is_sorted, get, contains_key, entries, keys, from_sorted, entries_sorted, get-entries, get-from_sorted, entries-from_sorted, same_map}
use Rattle.std.specs.FinMap.Entries.{below_all}
use Rattle.std.specs.List.{AllByRecursion}
use Rattle.std.specs.Ordering.{eq_by_cmp}
use Rattle.ov_specs.specs.rows.Database.{Row, Database}
use Rattle.ov_specs.specs.rows.Lines.{LineKey, line_cmp}
use Rattle.ov_specs.specs.schema.Schema.{is_some_and}
use Rattle.ov_specs.proofs.laws.LineKeys.{key_exact, key_total, same_tied, tied_same}
use Rattle.ov_specs.proofs.laws.PrunedValues.{is_sorted-filter}
use Rattle.ov_specs.proofs.laws.Truths.{both_hold, left_holds, right_holds}
use Rattle.ov_refs.specs.Holding.{KeySet}
use Rattle.ov_refs.proofs.Collecting.{find-below}

abbrev Rows : Type 0
Rows = List (LineKey × Row)

-- a row as an entry of a set of keys
abbrev marked : LineKey × Row → LineKey × Unit {0}
marked r = (r.0, tt)

below_all-marked : (key : LineKey) (rs : Rows) → T (below_all line_cmp key rs) → T (below_all line_cmp key (map marked rs))
below_all-marked key [] h = tt
below_all-marked key (r ∷ rs) h = both_hold _ _ (left_holds _ _ h) (below_all-marked key rs (right_holds _ _ h))

is_sorted-marked : (rs : Rows) → T (is_sorted line_cmp rs) → T (is_sorted line_cmp (map marked rs))
is_sorted-marked [] h = tt
is_sorted-marked (r ∷ rs) h = both_hold _ _ (below_all-marked r.0 rs (left_holds _ _ h)) (is_sorted-marked rs (right_holds _ _ h))

keys-marked : (rs : Rows) → map (λ e. e.0) (map marked rs) ≡ map (λ r. r.0) rs
keys-marked [] = refl
keys-marked (r ∷ rs) = ap (λ ks. r.0 ∷ ks) (keys-marked rs)

unit_same : (a b : Option (Unit {0})) → is_some a ≡ is_some b → a ≡ b
unit_same None None same = refl
unit_same (Some a) (Some b) same = refl
unit_same None (Some b) same = cc
unit_same (Some a) None same = cc

-- ---- the rows that pass a test

module _ (test : LineKey × Row → Bool) where
  -- there is a row of this key, and it passes
  abbrev passes : LineKey → Option Row → Bool
  passes key row = is_some_and (λ r. test (key, r)) row

  abbrev marks : Rows → List (LineKey × Unit {0})
  marks rs = map marked (filter test rs)

  found_marks : (key : LineKey) (rs : Rows) → T (is_sorted line_cmp rs) → is_some (find line_cmp key (marks rs)) ≡ passes key (find line_cmp key rs)
  found_marks key [] h = refl
  found_marks key (r ∷ rs) h = by (eq_by_cmp line_cmp key r.0) refl (test r) refl (found_marks key rs (right_holds _ _ h))
    where
      by : (tied : Bool) → eq_by_cmp line_cmp key r.0 ≡ tied → (b : Bool) → test r ≡ b → is_some (find line_cmp key (marks rs)) ≡ passes key (find line_cmp key rs)
          → is_some (find line_cmp key (map marked (cond b (r ∷ filter test rs) (filter test rs)))) ≡ passes key (cond tied (Some r.1) (find line_cmp key rs))
      by true is true passed rest =
          ap (λ t. is_some (cond t (Some tt) (find line_cmp key (marks rs)))) is ∙ sym (ap (λ k. test (k, r.1)) (tied_same key r.0 is) ∙ passed)
      by true is false passed rest =
          rest ∙ ap (passes key) (ap (λ k. find line_cmp k rs) (tied_same key r.0 is) ∙ find-below r.0 rs (left_holds _ _ h))
          ∙ sym (ap (λ k. test (k, r.1)) (tied_same key r.0 is) ∙ passed)
      by false is true passed rest = ap (λ t. is_some (cond t (Some tt) (find line_cmp key (marks rs)))) is ∙ rest
      by false is false passed rest = rest

  -- a set that has exactly their keys lists them
  pub keys_of_rows : (set : KeySet) (rows : Database) → ((key : LineKey) → contains_key set key ≡ passes key (get rows key)) → keys set ≡ map (λ r. r.0) (filter test (entries rows))
  keys_of_rows set rows has = ap keys same ∙ ap (map (λ e. e.0)) (entries-from_sorted line_cmp (marks (entries rows)) sorted) ∙ keys-marked (filter test (entries rows))
    where
      sorted : T (is_sorted line_cmp (marks (entries rows)))
      sorted = is_sorted-marked (filter test (entries rows)) (is_sorted-filter line_cmp test (entries rows) (entries_sorted rows))

      made : KeySet
      made = from_sorted {R = line_cmp} (marks (entries rows))

      at : (key : LineKey) → contains_key made key ≡ passes key (get rows key)
      at key = ap is_some (get-from_sorted line_cmp (marks (entries rows)) key sorted) ∙ found_marks key (entries rows) (entries_sorted rows) ∙ ap (passes key) (sym (get-entries rows key))

      same : set ≡ made
      same = same_map key_total key_exact set made (λ key. unit_same (get set key) (get made key) (has key ∙ sym (at key)))

-- a key of a set that may not be there
pub in_set : (o : Option KeySet) (key : LineKey) → contains_key (unwrap_or o empty) key ≡ is_some_and (λ set. contains_key set key) o
in_set None key = ap is_some (get-empty line_cmp key)
in_set (Some set) key = refl

-- ---- each row is found by its key

abbrev at_row : LineKey → Rows → Option Row
at_row key rs = find line_cmp key rs

found_later : (r : LineKey × Row) (rs : Rows) (key : LineKey) (row : Row) → T (is_sorted line_cmp (r ∷ rs)) → at_row key rs ≡ Some row → at_row key (r ∷ rs) ≡ Some row
found_later r rs key row h found = by (eq_by_cmp line_cmp key r.0) refl
  where
    by : (b : Bool) → eq_by_cmp line_cmp key r.0 ≡ b → cond (eq_by_cmp line_cmp key r.0) (Some r.1) (at_row key rs) ≡ Some row
    by false is = ap (λ b. cond b (Some r.1) (at_row key rs)) is ∙ found
    by true is = absurd (no (find-below r.0 rs (left_holds _ _ h)) (sym (ap (λ k. at_row k rs) (tied_same key r.0 is)) ∙ found))
      where
        no : at_row r.0 rs ≡ None → at_row r.0 rs ≡ Some row → ⊥
        no n s = cc

each_found_in : (all rs : Rows) → T (is_sorted line_cmp rs) → ((key : LineKey) (row : Row) → at_row key rs ≡ Some row → at_row key all ≡ Some row) → AllByRecursion (λ r. at_row r.0 all ≡ Some r.1) rs
each_found_in all [] h in_all = tt
each_found_in all (r ∷ rs) h in_all = (
  in_all r.0 r.1 (ap (λ b. cond b (Some r.1) (at_row r.0 rs)) (same_tied r.0 r.0 refl)),
  each_found_in all rs (right_holds _ _ h) (λ key row found. in_all key row (found_later r rs key row h found)),
)

-- each row of a database is the one at its key
pub each_found : (rows : Database) → AllByRecursion (λ r. at_row r.0 (entries rows) ≡ Some r.1) (entries rows)
each_found rows = each_found_in (entries rows) (entries rows) (entries_sorted rows) (λ key row found. found)
