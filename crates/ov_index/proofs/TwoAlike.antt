-- Two rows of a table that are alike in an index, by their keys.
use Rattle.std.proofs.Common.{◌≡◌, ℕ, List, [], ◌∷◌, Bool, true, false, cond, T, ◌||◌, Option, Some, None, refl, sym, ap, subst, ◌∙◌}
use Rattle.std.proofs.lemmas.Bool.{or_left, or_right}
use Rattle.std.proofs.lemmas.Option.{same_Some}
use Rattle.std.proofs.lemmas.Slice.Eq.{bytes_eq-Decides}
use Rattle.std.specs.Cmp.{eq_by_cmp_equiv}
use Rattle.std.specs.FinMap.{get, entries, find, is_sorted, entries_sorted, get-entries}
use Rattle.std.specs.FinMap.Entries.{find-where_key, is_sorted-where_key}
use Rattle.std.specs.List.{list_any, list_all}
use Rattle.std.specs.Ordering.{eq_by_cmp}
use Rattle.std.specs.Str.{bytes_eq}
use Rattle.ov_specs.specs.integrity.Limits.{rows_of, is_same_value, are_alike, has_two_alike}
use Rattle.ov_specs.specs.rows.Database.{Row, Database, same_datum}
use Rattle.ov_specs.specs.rows.Lines.{LineKey, line_cmp}
use Rattle.ov_specs.specs.values.Value.{Datum}
use Rattle.ov_specs.proofs.laws.DatumOrder.{datum_cmp_total}
use Rattle.ov_specs.proofs.laws.FoundRows.{find-below, find-later}
use Rattle.ov_specs.proofs.laws.LineKeys.{key_exact, key_total, tied_same, same_tied}
use Rattle.ov_specs.proofs.laws.Sameness.{datum-tied}
use Rattle.ov_specs.proofs.laws.Truths.{left_holds, right_holds}
use Rattle.ov_index.proofs.MapEntries.{contradicts, any_found, found_any}

-- the two keys are one
abbrev pub same_line : LineKey → LineKey → Bool
same_line a b = eq_by_cmp line_cmp a b

none_is : (row : Row) → ◌≡◌ {A = Option Row} None (Some row) → ⊥
none_is row e = cc

-- ---- it does not matter which of the two is first

same_datum-turned : (a b : Datum) → same_datum a b ≡ same_datum b a
same_datum-turned a b = datum-tied a b ∙ (eq_by_cmp_equiv datum_cmp_total).symm a b ∙ sym (datum-tied b a)

is_same_value-turned : (a b : Option Datum) → is_same_value a b ≡ is_same_value b a
is_same_value-turned None None = refl
is_same_value-turned None (Some b) = refl
is_same_value-turned (Some a) None = refl
is_same_value-turned (Some a) (Some b) = same_datum-turned a b

pub are_alike-turned : (index : List (List ℕ)) (r s : LineKey × Row) → are_alike index r s ≡ are_alike index s r
are_alike-turned index r s = λ i. list_all (λ name. is_same_value-turned (get r.1.columns name) (get s.1.columns name) i) index

-- ---- two rows in a list

found_first : (r : LineKey × Row) (rs : List (LineKey × Row)) → find line_cmp r.0 (r ∷ rs) ≡ Some r.1
found_first r rs = ap (λ b. cond b (Some r.1) (find line_cmp r.0 rs)) (same_tied r.0 r.0 refl)

module _ (index : List (List ℕ)) where
  -- two different keys with rows that are alike
  abbrev TwoFound : List (LineKey × Row) → Type 0
  TwoFound rs =
      (a : LineKey) × (r : Row) × (b : LineKey) × (s : Row) × (find line_cmp a rs ≡ Some r) × (find line_cmp b rs ≡ Some s) × (same_line a b ≡ false)
      × (are_alike index (a, r) (b, s) ≡ true)

  two_found : (rs : List (LineKey × Row)) → T (is_sorted line_cmp rs) → has_two_alike index rs ≡ true → TwoFound rs
  two_found [] sorted two = cc
  two_found (r ∷ rs) sorted two = by (list_any (are_alike index r) rs) refl two (two_found rs (right_holds _ _ sorted))
    where
      -- the first key does not come again
      differs : (key : LineKey) (row : Row) → find line_cmp key rs ≡ Some row → (b : Bool) → same_line r.0 key ≡ b → same_line r.0 key ≡ false
      differs key row found true same =
          absurd (none_is row (sym (find-below r.0 rs (left_holds _ _ sorted)) ∙ ap (λ k. find line_cmp k rs) (tied_same r.0 key same) ∙ found))
      differs key row found false other = other

      by : (b : Bool) → list_any (are_alike index r) rs ≡ b → (b || has_two_alike index rs) ≡ true → (has_two_alike index rs ≡ true → TwoFound rs) → TwoFound (r ∷ rs)
      by true is two others =
          let one = any_found line_cmp key_total key_exact (are_alike index r) rs (right_holds _ _ sorted) is in
          (r.0, r.1, one.0, one.1, found_first r rs, find-later r rs one.0 one.1 sorted one.2, differs one.0 one.1 one.2 (same_line r.0 one.0) refl, one.3)
      by false is two others =
          let both : TwoFound rs = others two in
          (both.0, both.1, both.2, both.3, find-later r rs both.0 both.1 sorted both.4, find-later r rs both.2 both.3 sorted both.5, both.6, both.7)

  found_two : (rs : List (LineKey × Row)) → TwoFound rs → has_two_alike index rs ≡ true
  found_two [] two = absurd (none_is two.1 two.4)
  found_two (x ∷ rs) (a, r, b, s, at_a, at_b, differ, alike) =
      by (eq_by_cmp line_cmp a x.0) (eq_by_cmp line_cmp b x.0) refl refl at_a at_b (λ here there. found_two rs (a, r, b, s, here, there, differ, alike))
    where
      -- the first one is alike with a later one
      first : (key : LineKey) (row : Row) (other : LineKey) (later : Row) → eq_by_cmp line_cmp key x.0 ≡ true → Some x.1 ≡ Some row → find line_cmp other rs ≡ Some later → are_alike index (key, row) (other, later) ≡ true
          → (list_any (are_alike index x) rs || has_two_alike index rs) ≡ true
      first key row other later tied at found are =
          or_left (list_any (are_alike index x) rs) (has_two_alike index rs)
          (found_any line_cmp key_total key_exact (are_alike index x) rs other later found
          (subst (λ (p : LineKey × Row). are_alike index p (other, later) ≡ true) (λ i. (tied_same key x.0 tied i, sym (same_Some x.1 row at) i)) are))

      by : (in_a in_b : Bool) → eq_by_cmp line_cmp a x.0 ≡ in_a → eq_by_cmp line_cmp b x.0 ≡ in_b → cond in_a (Some x.1) (find line_cmp a rs) ≡ Some r → cond in_b (Some x.1) (find line_cmp b rs) ≡ Some s
          → (find line_cmp a rs ≡ Some r → find line_cmp b rs ≡ Some s → has_two_alike index rs ≡ true) → (list_any (are_alike index x) rs || has_two_alike index rs) ≡ true
      by true true tied_a tied_b at_a at_b later =
          absurd (contradicts (same_line a b) (same_tied a b (tied_same a x.0 tied_a ∙ sym (tied_same b x.0 tied_b))) differ)
      by true false tied_a tied_b at_a at_b later = first a r b s tied_a at_a at_b alike
      by false true tied_a tied_b at_a at_b later = first b s a r tied_b at_b at_a (are_alike-turned index (b, s) (a, r) ∙ alike)
      by false false tied_a tied_b at_a at_b later = or_right (list_any (are_alike index x) rs) (has_two_alike index rs) (later at_a at_b)

-- ---- two rows of a table

-- two different keys of the table with rows that are alike
abbrev pub TwoAlike : Database → List ℕ → List (List ℕ) → Type 0
TwoAlike rows name index =
    (a : LineKey) × (r : Row) × (b : LineKey) × (s : Row) × (a.0 ≡ name) × (get rows a ≡ Some r) × (b.0 ≡ name) × (get rows b ≡ Some s) × (same_line a b ≡ false)
    × (are_alike index (a, r) (b, s) ≡ true)

module _ (rows : Database) (name : List ℕ) where
  abbrev is_of_table : LineKey → Bool
  is_of_table key = bytes_eq key.0 name

  find-rows_of : (q : LineKey) → find line_cmp q (rows_of name rows) ≡ cond (is_of_table q) (get rows q) None
  find-rows_of q =
      find-where_key line_cmp is_of_table q (λ x tied. ap is_of_table (sym (key_exact q x tied))) (entries rows)
      ∙ ap (λ o. cond (is_of_table q) o None) (sym (get-entries rows q))

  is_row : (key : LineKey) (row : Row) → find line_cmp key (rows_of name rows) ≡ Some row → (key.0 ≡ name) × (get rows key ≡ Some row)
  is_row key row found = by (is_of_table key) refl (sym (find-rows_of key) ∙ found)
    where
      by : (b : Bool) → is_of_table key ≡ b → cond b (get rows key) None ≡ Some row → (key.0 ≡ name) × (get rows key ≡ Some row)
      by true of_table has = ((bytes_eq-Decides key.0 name).0 of_table, has)
      by false of_table has = absurd (none_is row has)

  row_is : (key : LineKey) (row : Row) → key.0 ≡ name → get rows key ≡ Some row → find line_cmp key (rows_of name rows) ≡ Some row
  row_is key row of_table has = find-rows_of key ∙ ap (λ b. cond b (get rows key) None) ((bytes_eq-Decides key.0 name).1 of_table) ∙ has

  -- two rows of the table that are alike have different keys
  pub two_alike : (index : List (List ℕ)) → has_two_alike index (rows_of name rows) ≡ true → TwoAlike rows name index
  two_alike index two =
      let found = two_found index (rows_of name rows) (is_sorted-where_key line_cmp is_of_table (entries rows) (entries_sorted rows)) two in
      let a = is_row found.0 found.1 found.4 in
      let b = is_row found.2 found.3 found.5 in
      (found.0, found.1, found.2, found.3, a.0, a.1, b.0, b.1, found.6, found.7)

  -- and the other way round
  pub are_two_alike : (index : List (List ℕ)) → TwoAlike rows name index → has_two_alike index (rows_of name rows) ≡ true
  are_two_alike index two =
      found_two index (rows_of name rows) (two.0, two.1, two.2, two.3, row_is two.0 two.1 two.4 two.5, row_is two.2 two.3 two.6 two.7, two.8, two.9)
