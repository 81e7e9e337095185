-- The rows that are kept: there is one greatest part of all rows that is supported, and it is what the turns leave.
use Rattle.std.proofs.Common.{◌≡◌, ℕ, zero, suc, ◌-◌, ◌≤◌, List, [], ◌∷◌, map, filter, Bool, true, false, cond, not, ◌&&◌, ◌||◌, Option, Some, None, is_some, refl, sym, ap, subst, ◌∙◌, arith}
use Rattle.std.specs.List.{list_any, list_all}
use Rattle.std.specs.FinMap.{empty, get, remove, entries, len, contains_key, get-empty, get-remove, len-remove, empty_of_len, same_map}
use Rattle.std.specs.Ordering.{eq_by_cmp}
use Rattle.std.proofs.lemmas.Bool.{and_parts, and_from, or_left, not_from_false}
use Rattle.ov_specs.specs.integrity.References.{references}
use Rattle.ov_specs.specs.integrity.Kept.{supports, is_in_root_table, is_supported, AreSupported, AreSome, IsGreatestSupported, unsupported, kept_after, kept}
use Rattle.ov_specs.specs.operations.MatchingRows.{without_rows}
use Rattle.ov_specs.specs.rows.Database.{Row, Database}
use Rattle.ov_specs.specs.rows.Lines.{LineKey, line_cmp}
use Rattle.ov_specs.specs.schema.SchemaTypes.{Schema}
use Rattle.ov_specs.proofs.laws.LineKeys.{key_total, key_exact, tied_same, same_tied}
use Rattle.ov_specs.proofs.laws.References.{any_row_is, row_is_any, all_rows_are, are_all_rows, any_reference_is, reference_is_any}

-- ---- support

-- what is supported by some of all rows is supported by all
pub support_grows : (schema : Schema) (all rows : Database) → AreSome all rows → (key : LineKey) → is_supported schema rows key ≡ true → is_supported schema all key ≡ true
support_grows schema all rows some key = by (is_in_root_table schema key)
  where
    by : (root : Bool) → (root || list_any (supports key) (references schema rows)) ≡ true → (root || list_any (supports key) (references schema all)) ≡ true
    by true is = refl
    by false is =
        let from = any_reference_is schema (supports key) rows is in
        reference_is_any schema (supports key) all from.0 from.1 (some from.0 from.1 from.2) from.3

-- all rows pass the test of support
pub supported_all : (schema : Schema) (rows : Database) → list_all (λ r. is_supported schema rows r.0) (entries rows) ≡ true → AreSupported schema rows
supported_all schema rows all key row has = all_rows_are (λ r. is_supported schema rows r.0) rows key row all has

-- and the other way round
pub all_supported : (schema : Schema) (rows : Database) → AreSupported schema rows → list_all (λ r. is_supported schema rows r.0) (entries rows) ≡ true
all_supported schema rows supported = are_all_rows (λ r. is_supported schema rows r.0) rows supported

-- ---- there are no two parts that are kept

none_is : (row : Row) → ◌≡◌ {A = Option Row} None (Some row) → ⊥
none_is row e = cc

-- two databases, each of which has all rows of the other, are the same
same_rows : (a b : Database) → AreSome a b → AreSome b a → a ≡ b
same_rows a b b_in_a a_in_b = same_map key_total key_exact a b (λ key. by key (get a key) (get b key) refl refl)
  where
    by : (key : LineKey) (x y : Option Row) → get a key ≡ x → get b key ≡ y → get a key ≡ get b key
    by key (Some row) y in_a in_b = in_a ∙ sym (a_in_b key row in_a)
    by key None (Some row) in_a in_b = absurd (none_is row (sym in_a ∙ b_in_a key row in_b))
    by key None None in_a in_b = in_a ∙ sym in_b

-- all rows have one such part
pub kept_is_one : (schema : Schema) (all a b : Database) → IsGreatestSupported schema all a → IsGreatestSupported schema all b → a ≡ b
kept_is_one schema all a b is_a is_b =
    same_rows a b (is_a.greatest b is_b.some is_b.supported) (is_b.greatest a is_a.some is_a.supported)

-- rows that are supported are kept whole
whole_kept : (schema : Schema) (rows : Database) → AreSupported schema rows → IsGreatestSupported schema rows rows
whole_kept schema rows supported = record {
  some = λ key row has. has;
  supported = supported;
  greatest = λ others some others_supported. some;
}

-- what is kept of some rows is kept of all, if each supported part of all is one of those
kept_of_fewer : (schema : Schema) (all fewer kept : Database) → AreSome all fewer → ((rows : Database) → AreSome all rows → AreSupported schema rows → AreSome fewer rows) → IsGreatestSupported schema fewer kept
    → IsGreatestSupported schema all kept
kept_of_fewer schema all fewer kept some each is = record {
  some = λ key row has. some key row (is.some key row has);
  supported = is.supported;
  greatest = λ rows part supported. is.greatest rows (each rows part supported) supported;
}

-- ---- rows without those of some keys

get-without_rows : (keys : List LineKey) (rows : Database) (q : LineKey) → get (without_rows keys rows) q ≡ cond (list_any (eq_by_cmp line_cmp q) keys) None (get rows q)
get-without_rows [] rows q = refl
get-without_rows (key ∷ keys) rows q =
    get-without_rows keys (remove rows key) q ∙ ap (cond (list_any (eq_by_cmp line_cmp q) keys) None) (get-remove key_total rows key q)
    ∙ either (eq_by_cmp line_cmp q key) (list_any (eq_by_cmp line_cmp q) keys) (get rows q)
  where
    either : (here later : Bool) (found : Option Row) → cond later None (cond here None found) ≡ cond (here || later) None found
    either true true found = refl
    either true false found = refl
    either false later found = refl

len-remove-le : (rows : Database) (key : LineKey) → len (remove rows key) ≤ len rows
len-remove-le rows key = by (contains_key rows key) (len-remove key_total rows key)
  where
    by : (b : Bool) → len (remove rows key) ≡ cond b (len rows - 1) (len rows) → len (remove rows key) ≤ len rows
    by true e = omega (arith, e)
    by false e = omega (arith, e)

len-without_rows-le : (keys : List LineKey) (rows : Database) → len (without_rows keys rows) ≤ len rows
len-without_rows-le [] rows = omega arith
len-without_rows-le (key ∷ keys) rows = omega (arith, len-without_rows-le keys (remove rows key), len-remove-le rows key)

-- rows without one that is there and without others are fewer
len-without_one : (key : LineKey) (keys : List LineKey) (rows : Database) (row : Row) (n : ℕ) → get rows key ≡ Some row → len rows ≤ suc n → len (without_rows (key ∷ keys) rows) ≤ n
len-without_one key keys rows row n has within =
    let one : len (remove rows key) ≡ len rows - 1 = len-remove key_total rows key ∙ ap (λ o. cond (is_some o) (len rows - 1) (len rows)) has in
    omega (arith, one, within, len-without_rows-le keys (remove rows key))

-- ---- one turn

any-keys : (p : LineKey × Row → Bool) (test : LineKey → Bool) (rs : List (LineKey × Row)) → list_any test (map (λ r. r.0) (filter p rs)) ≡ list_any (λ r. p r && test r.0) rs
any-keys p test [] = refl
any-keys p test (r ∷ rs) = by (p r) (any-keys p test rs)
  where
    by : (b : Bool) → list_any test (map (λ x. x.0) (filter p rs)) ≡ list_any (λ x. p x && test x.0) rs
        → list_any test (map (λ x. x.0) (cond b (r ∷ filter p rs) (filter p rs))) ≡ ((b && test r.0) || list_any (λ x. p x && test x.0) rs)
    by true rest = ap (λ b. test r.0 || b) rest
    by false rest = rest

module _ (schema : Schema) (rows : Database) where
  abbrev goes : LineKey → Bool
  goes q = list_any (eq_by_cmp line_cmp q) (unsupported schema rows)

  abbrev is_going : LineKey → LineKey × Row → Bool
  is_going q r = not (is_supported schema rows r.0) && eq_by_cmp line_cmp q r.0

  goes-is : (q : LineKey) → goes q ≡ list_any (is_going q) (entries rows)
  goes-is q = any-keys (λ r. not (is_supported schema rows r.0)) (eq_by_cmp line_cmp q) (entries rows)

  -- what goes is a row, and has no support
  goes_has : (q : LineKey) → goes q ≡ true → (row : Row) × (get rows q ≡ Some row) × (not (is_supported schema rows q) ≡ true)
  goes_has q is =
      let found = any_row_is (is_going q) rows (sym (goes-is q) ∙ is) in
      let parts = and_parts (not (is_supported schema rows found.0)) (eq_by_cmp line_cmp q found.0) found.3 in
      let same : found.0 ≡ q = sym (tied_same q found.0 parts.1) in
      (found.1, subst (λ k. get rows k ≡ Some found.1) same found.2, subst (λ k. not (is_supported schema rows k) ≡ true) same parts.0)

  -- a row without support goes
  has_goes : (q : LineKey) (row : Row) → get rows q ≡ Some row → is_supported schema rows q ≡ false → goes q ≡ true
  has_goes q row has is =
      goes-is q ∙ row_is_any (is_going q) rows q row has (and_from _ _ (not_from_false (is_supported schema rows q) is) (same_tied q q refl))

  abbrev after_turn : Database
  after_turn = without_rows (unsupported schema rows) rows

  -- what is left are some of the rows
  turn_some : AreSome rows after_turn
  turn_some key row has = by (goes key) (sym (get-without_rows (unsupported schema rows) rows key) ∙ has)
    where
      by : (b : Bool) → cond b None (get rows key) ≡ Some row → get rows key ≡ Some row
      by true e = absurd (none_is row e)
      by false e = e

  -- with each part of them that is supported
  turn_keeps : (part : Database) → AreSome rows part → AreSupported schema part → AreSome after_turn part
  turn_keeps part some supported key row has = by (goes key) refl
    where
      is : is_supported schema rows key ≡ true
      is = support_grows schema rows part some key (supported key row has)

      no : (b : Bool) → b ≡ true → not b ≡ true → ⊥
      no true e n = cc
      no false e n = cc

      by : (b : Bool) → goes key ≡ b → get after_turn key ≡ Some row
      by true going = absurd (no (is_supported schema rows key) is (goes_has key going).2)
      by false going =
          get-without_rows (unsupported schema rows) rows key ∙ ap (λ b. cond b None (get rows key)) going ∙ some key row has

  -- if none goes, all have support
  none_goes : unsupported schema rows ≡ [] → AreSupported schema rows
  none_goes none key row has = by (is_supported schema rows key) refl
    where
      no : goes key ≡ true → goes key ≡ false → ⊥
      no a b = cc

      by : (b : Bool) → is_supported schema rows key ≡ b → is_supported schema rows key ≡ true
      by true is = is
      by false is = absurd (no (has_goes key row has is) (ap (list_any (eq_by_cmp line_cmp key)) none))

  -- the first that goes is a row
  first_goes : (key : LineKey) (keys : List LineKey) → unsupported schema rows ≡ key ∷ keys → (row : Row) × (get rows key ≡ Some row)
  first_goes key keys are =
      let has = goes_has key (ap (list_any (eq_by_cmp line_cmp key)) are ∙ or_left _ _ (same_tied key key refl)) in
      (has.0, has.1)

-- ---- all turns

-- if none goes, none goes in any later turn
none_goes_later : (n : ℕ) (schema : Schema) (rows : Database) → unsupported schema rows ≡ [] → kept_after n schema rows ≡ rows
none_goes_later zero schema rows none = refl
none_goes_later (suc n) schema rows none =
    ap (λ keys. kept_after n schema (without_rows keys rows)) none ∙ none_goes_later n schema rows none

kept_after_are : (n : ℕ) (schema : Schema) (rows : Database) → len rows ≤ n → IsGreatestSupported schema rows (kept_after n schema rows)
kept_after_are zero schema rows within = whole_kept schema rows (λ key row has. absurd (none_is row (sym (get-empty line_cmp key) ∙ sym (ap (λ m. get m key) is_empty) ∙ has)))
  where
    is_empty : rows ≡ empty
    is_empty = empty_of_len rows (omega (arith, within))
kept_after_are (suc n) schema rows within = by (unsupported schema rows) refl (kept_after_are n schema (after_turn schema rows))
  where
    by : (keys : List LineKey) → unsupported schema rows ≡ keys → (len (after_turn schema rows) ≤ n → IsGreatestSupported schema (after_turn schema rows) (kept_after n schema (after_turn schema rows)))
        → IsGreatestSupported schema rows (kept_after n schema (after_turn schema rows))
    by [] none later =
        subst (IsGreatestSupported schema rows) (sym (none_goes_later (suc n) schema rows none)) (whole_kept schema rows (none_goes schema rows none))
    by (key ∷ keys) are later =
        let first = first_goes schema rows key keys are in
        let fewer : len (after_turn schema rows) ≤ n =
        subst (λ ks. len (without_rows ks rows) ≤ n) (sym are) (len-without_one key keys rows first.0 n first.1 within) in
        kept_of_fewer schema rows (after_turn schema rows) _ (turn_some schema rows) (turn_keeps schema rows) (later fewer)

-- the turns leave the rows that are kept
pub kept_are : (schema : Schema) (rows : Database) → IsGreatestSupported schema rows (kept schema rows)
kept_are schema rows = kept_after_are (len rows) schema rows (omega arith)

-- ---- what follows

-- rows that are supported are kept whole
pub kept_whole : (schema : Schema) (rows : Database) → AreSupported schema rows → kept schema rows ≡ rows
kept_whole schema rows supported = kept_is_one schema rows (kept schema rows) rows (kept_are schema rows) (whole_kept schema rows supported)

-- a row without support may go before the turns
pub kept_without : (schema : Schema) (rows : Database) (key : LineKey) → is_supported schema rows key ≡ false → kept schema (remove rows key) ≡ kept schema rows
kept_without schema rows key is =
    kept_is_one schema rows (kept schema (remove rows key)) (kept schema rows)
    (kept_of_fewer schema rows (remove rows key) (kept schema (remove rows key)) some each (kept_are schema (remove rows key))) (kept_are schema rows)
  where
    some : AreSome rows (remove rows key)
    some q row has = by (eq_by_cmp line_cmp q key) (sym (get-remove key_total rows key q) ∙ has)
      where
        by : (b : Bool) → cond b None (get rows q) ≡ Some row → get rows q ≡ Some row
        by true e = absurd (none_is row e)
        by false e = e

    each : (part : Database) → AreSome rows part → AreSupported schema part → AreSome (remove rows key) part
    each part of_rows supported q row has = get-remove key_total rows key q ∙ by (eq_by_cmp line_cmp q key) refl
      where
        no : is_supported schema rows key ≡ false → is_supported schema rows key ≡ true → ⊥
        no a b = cc

        by : (b : Bool) → eq_by_cmp line_cmp q key ≡ b → cond b None (get rows q) ≡ Some row
        by true same =
            absurd (no is (subst (λ k. is_supported schema rows k ≡ true) (tied_same q key same) (support_grows schema rows part of_rows q (supported q row has))))
        by false same = of_rows q row has
