-- What holds of some entry of a map, and what is at its key.
use Rattle.std.proofs.Common.{◌≡◌, ℕ, List, [], ◌∷◌, Bool, true, false, cond, T, ◌||◌, Option, Some, None, refl, sym, ap, subst, ◌∙◌}
use Rattle.std.proofs.lemmas.Bool.{or_left, or_right}
use Rattle.std.proofs.lemmas.Option.{same_Some}
use Rattle.std.specs.Cmp.{IsTotalOrder, eq_by_cmp_equiv}
use Rattle.std.specs.FinMap.{FinMap, IsAntisymmetric, get, entries, find, is_sorted, from_entries, entries_sorted, get-entries, get-from_entries}
use Rattle.std.specs.FinMap.Entries.{below_all}
use Rattle.std.specs.List.{list_any}
use Rattle.std.specs.Ordering.{eq_by_cmp}
use Rattle.std.specs.declared.cmp.Ordering.{Ordering}
use Rattle.ov_specs.specs.schema.Schema.{is_some_and}
use Rattle.ov_specs.specs.schema.SchemaTypes.{name_cmp}
use Rattle.ov_specs.proofs.laws.Names.{name_cmp_total, name_exact}
use Rattle.ov_specs.proofs.laws.Truths.{left_holds, right_holds, equal_is, not_tied}

-- ---- what cannot be, and truth

pub contradicts : (b : Bool) → b ≡ true → b ≡ false → ⊥
contradicts true is is_not = cc
contradicts false is is_not = cc

-- two tests that imply each other are one
pub same_truth : (a b : Bool) → (a ≡ true → b ≡ true) → (b ≡ true → a ≡ true) → a ≡ b
same_truth true b there back = sym (there refl)
same_truth false true there back = back refl
same_truth false false there back = refl

-- what is there and passes a test
pub some_and_is : {X : Type 0} (test : X → Bool) (o : Option X) → is_some_and test o ≡ true → (x : X) × (o ≡ Some x) × (test x ≡ true)
some_and_is test None h = cc
some_and_is test (Some x) h = (x, refl, h)

-- ---- some of a map

tied_is : {K : Type 0} (R : K → K → Ordering) → IsAntisymmetric R → (a b : K) → eq_by_cmp R a b ≡ true → a ≡ b
tied_is R exact a b tied = exact a b (equal_is _ tied)

find-below : {K X : Type 0} (R : K → K → Ordering) (key : K) (es : List (K × X)) → T (below_all R key es) → find R key es ≡ None
find-below R key [] below = refl
find-below R key (e ∷ es) below =
    ap (λ b. cond b (Some e.1) (find R key es)) (not_tied (R key e.0) (left_holds _ _ below)) ∙ find-below R key es (right_holds _ _ below)

module _ {K X : Type 0} (R : K → K → Ordering) (total : IsTotalOrder R) (exact : IsAntisymmetric R) where
  find-later : (e : K × X) (es : List (K × X)) (key : K) (x : X) → T (is_sorted R (e ∷ es)) → find R key es ≡ Some x → find R key (e ∷ es) ≡ Some x
  find-later e es key x sorted found = by (eq_by_cmp R key e.0) refl
    where
      no : find R e.0 es ≡ None → find R e.0 es ≡ Some x → ⊥
      no n s = cc

      by : (b : Bool) → eq_by_cmp R key e.0 ≡ b → cond b (Some e.1) (find R key es) ≡ Some x
      by false other = found
      by true tied = absurd (no (find-below R e.0 es (left_holds _ _ sorted)) (sym (ap (λ k. find R k es) (tied_is R exact key e.0 tied)) ∙ found))

  module _ (test : K × X → Bool) where
    -- an entry of the list passes the test, and is found at its key
    abbrev SomeFound : List (K × X) → Type 0
    SomeFound es = (key : K) × (x : X) × (find R key es ≡ Some x) × (test (key, x) ≡ true)

    pub any_found : (es : List (K × X)) → T (is_sorted R es) → list_any test es ≡ true → SomeFound es
    any_found [] sorted any = cc
    any_found (e ∷ es) sorted any = by (test e) refl any (any_found es (right_holds _ _ sorted))
      where
        by : (b : Bool) → test e ≡ b → (b || list_any test es) ≡ true → (list_any test es ≡ true → SomeFound es) → SomeFound (e ∷ es)
        by true is any others = (e.0, e.1, ap (λ b. cond b (Some e.1) (find R e.0 es)) ((eq_by_cmp_equiv total).refl e.0), is)
        by false is any others =
            let later : SomeFound es = others any in
            (later.0, later.1, find-later e es later.0 later.1 sorted later.2, later.3)

    pub found_any : (es : List (K × X)) (key : K) (x : X) → find R key es ≡ Some x → test (key, x) ≡ true → list_any test es ≡ true
    found_any [] key x found is = cc
    found_any (e ∷ es) key x found is = by (eq_by_cmp R key e.0) refl found (λ later. found_any es key x later is)
      where
        by : (b : Bool) → eq_by_cmp R key e.0 ≡ b → cond b (Some e.1) (find R key es) ≡ Some x → (find R key es ≡ Some x → list_any test es ≡ true) → (test e || list_any test es) ≡ true
        by true tied found others =
            or_left (test e) (list_any test es) (subst (λ (p : K × X). test p ≡ true) (λ i. (tied_is R exact key e.0 tied i, same_Some x e.1 (sym found) i)) is)
        by false tied found others = or_right (test e) (list_any test es) (others found)

    -- if an entry passes the test, an entry at some key passes it
    pub any_entry_is : (m : FinMap R X) → list_any test (entries m) ≡ true → (key : K) × (x : X) × (get m key ≡ Some x) × (test (key, x) ≡ true)
    any_entry_is m any =
        let found : SomeFound (entries m) = any_found (entries m) (entries_sorted m) any in
        (found.0, found.1, get-entries m found.0 ∙ found.2, found.3)

    -- and the other way round
    pub entry_is_any : (m : FinMap R X) (key : K) (x : X) → get m key ≡ Some x → test (key, x) ≡ true → list_any test (entries m) ≡ true
    entry_is_any m key x has is = found_any (entries m) key x (sym (get-entries m key) ∙ has) is

-- ---- a list with names, of which the first of each counts

module _ {X : Type 0} (test : List ℕ → X → Bool) (items : List (List ℕ × X)) where
  abbrev by_name : List ℕ × X → Bool
  by_name t = is_some_and (test t.0) (get (from_entries {R = name_cmp} items) t.0)

  name_of : (ts : List (List ℕ × X)) (name : List ℕ) (x : X) → find name_cmp name ts ≡ Some x → is_some_and (test name) (get (from_entries {R = name_cmp} items) name) ≡ true → list_any by_name ts ≡ true
  name_of [] name x found is = cc
  name_of (t ∷ ts) name x found is = by (eq_by_cmp name_cmp name t.0) refl found (λ later. name_of ts name x later is)
    where
      by : (b : Bool) → eq_by_cmp name_cmp name t.0 ≡ b → cond b (Some t.1) (find name_cmp name ts) ≡ Some x → (find name_cmp name ts ≡ Some x → list_any by_name ts ≡ true) → (by_name t || list_any by_name ts) ≡ true
      by true tied found others = or_left (by_name t) (list_any by_name ts) (subst (λ n. is_some_and (test n) (get (from_entries {R = name_cmp} items) n) ≡ true) (name_exact name t.0 (equal_is _ tied)) is)
      by false tied found others = or_right (by_name t) (list_any by_name ts) (others found)

  any_named : (ts : List (List ℕ × X)) → list_any by_name ts ≡ true → (name : List ℕ) × (is_some_and (test name) (get (from_entries {R = name_cmp} items) name) ≡ true)
  any_named [] any = cc
  any_named (t ∷ ts) any = by (by_name t) refl any (any_named ts)
    where
      by : (b : Bool) → by_name t ≡ b → (b || list_any by_name ts) ≡ true → (list_any by_name ts ≡ true → (name : List ℕ) × (is_some_and (test name) (get (from_entries {R = name_cmp} items) name) ≡ true))
          → (name : List ℕ) × (is_some_and (test name) (get (from_entries {R = name_cmp} items) name) ≡ true)
      by true is any others = (t.0, is)
      by false is any others = others any

  -- what is asked of each name of the list is asked of each entry of the map
  pub any_by_name : list_any by_name items ≡ list_any (λ e. test e.0 e.1) (entries (from_entries {R = name_cmp} items))
  any_by_name = same_truth (list_any by_name items) (list_any (λ e. test e.0 e.1) (entries (from_entries {R = name_cmp} items))) there back
    where
      there : list_any by_name items ≡ true → list_any (λ e. test e.0 e.1) (entries (from_entries {R = name_cmp} items)) ≡ true
      there any =
          let one = any_named items any in
          let found = some_and_is (test one.0) (get (from_entries {R = name_cmp} items) one.0) one.1 in
          entry_is_any name_cmp name_cmp_total name_exact (λ e. test e.0 e.1) (from_entries {R = name_cmp} items) one.0 found.0 found.1 found.2

      back : list_any (λ e. test e.0 e.1) (entries (from_entries {R = name_cmp} items)) ≡ true → list_any by_name items ≡ true
      back any =
          let found = any_entry_is name_cmp name_cmp_total name_exact (λ (e : List ℕ × X). test e.0 e.1) (from_entries {R = name_cmp} items) any in
          name_of items found.0 found.1 (sym (get-from_entries name_cmp_total items found.0) ∙ found.2) (ap (is_some_and (test found.0)) found.2 ∙ found.3)

pub tables_by_name : {X : Type 0} (test : List ℕ → X → Bool) (items : List (List ℕ × X)) (tables : FinMap name_cmp X) → from_entries {R = name_cmp} items ≡ tables
    → list_any (λ t. is_some_and (test t.0) (get tables t.0)) items ≡ list_any (λ e. test e.0 e.1) (entries tables)
tables_by_name {X = X} test items tables is = subst (λ (m : FinMap name_cmp X). list_any (λ t. is_some_and (test t.0) (get m t.0)) items ≡ list_any (λ e. test e.0 e.1) (entries m)) is (any_by_name test items)
