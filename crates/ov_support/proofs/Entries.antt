-- What holds for some entry of a map, and what is at its key.
use Rattle.std.proofs.Common.{◌≡◌, List, [], ◌∷◌, Bool, true, false, cond, T, ◌||◌, Some, None, refl, sym, ap, subst, ◌∙◌}
use Rattle.std.proofs.lemmas.Bool.{or_left, or_right}
use Rattle.std.proofs.lemmas.Option.{same_Some}
use Rattle.std.specs.Cmp.{IsTotalOrder, eq_by_cmp_equiv}
use Rattle.std.specs.FinMap.{FinMap, IsAntisymmetric, get, entries, find, is_sorted, entries_sorted, get-entries}
use Rattle.std.specs.FinMap.Entries.{below_all}
use Rattle.std.specs.List.{list_any}
use Rattle.std.specs.Ordering.{eq_by_cmp}
use Rattle.std.specs.declared.cmp.Ordering.{Ordering}
use Rattle.ov_specs.proofs.laws.Truths.{left_holds, right_holds, equal_is, not_tied}

tied_is : {K : Type 0} (R : K → K → Ordering) → IsAntisymmetric R → (a b : K) → eq_by_cmp R a b ≡ true → a ≡ b
tied_is R exact a b tied = exact a b (equal_is _ tied)

find-below : {K X : Type 0} (R : K → K → Ordering) (key : K) (es : List (K × X)) → T (below_all R key es) → find R key es ≡ None
find-below R key [] below = refl
find-below R key (e ∷ es) below =
    ap (λ b. cond b (Some e.1) (find R key es)) (not_tied (R key e.0) (left_holds _ _ below)) ∙ find-below R key es (right_holds _ _ below)

module _ {K X : Type 0} (R : K → K → Ordering) (total : IsTotalOrder R) (exact : IsAntisymmetric R) where
  find-later : (e : K × X) (es : List (K × X)) (key : K) (x : X) → T (is_sorted R (e ∷ es)) → find R key es ≡ Some x → find R key (e ∷ es) ≡ Some x
  find-later e es key x sorted found = by (eq_by_cmp R key e.0) refl
    where
      no : find R e.0 es ≡ None → find R e.0 es ≡ Some x → ⊥
      no n s = cc

      by : (b : Bool) → eq_by_cmp R key e.0 ≡ b → cond b (Some e.1) (find R key es) ≡ Some x
      by false other = found
      by true tied = absurd (no (find-below R e.0 es (left_holds _ _ sorted)) (sym (ap (λ k. find R k es) (tied_is R exact key e.0 tied)) ∙ found))

  module _ (test : K × X → Bool) where
    -- an entry of the list passes the test, and is found at its key
    abbrev SomeFound : List (K × X) → Type 0
    SomeFound es = (key : K) × (x : X) × (find R key es ≡ Some x) × (test (key, x) ≡ true)

    any_found : (es : List (K × X)) → T (is_sorted R es) → list_any test es ≡ true → SomeFound es
    any_found [] sorted any = cc
    any_found (e ∷ es) sorted any = by (test e) refl any (any_found es (right_holds _ _ sorted))
      where
        by : (b : Bool) → test e ≡ b → (b || list_any test es) ≡ true → (list_any test es ≡ true → SomeFound es) → SomeFound (e ∷ es)
        by true is any others = (e.0, e.1, ap (λ b. cond b (Some e.1) (find R e.0 es)) ((eq_by_cmp_equiv total).refl e.0), is)
        by false is any others =
            let later : SomeFound es = others any in
            (later.0, later.1, find-later e es later.0 later.1 sorted later.2, later.3)

    found_any : (es : List (K × X)) (key : K) (x : X) → find R key es ≡ Some x → test (key, x) ≡ true → list_any test es ≡ true
    found_any [] key x found is = cc
    found_any (e ∷ es) key x found is = by (eq_by_cmp R key e.0) refl found (λ later. found_any es key x later is)
      where
        by : (b : Bool) → eq_by_cmp R key e.0 ≡ b → cond b (Some e.1) (find R key es) ≡ Some x → (find R key es ≡ Some x → list_any test es ≡ true) → (test e || list_any test es) ≡ true
        by true tied found others =
            or_left (test e) (list_any test es) (subst (λ (p : K × X). test p ≡ true) (λ i. (tied_is R exact key e.0 tied i, same_Some x e.1 (sym found) i)) is)
        by false tied found others = or_right (test e) (list_any test es) (others found)

    -- if an entry passes the test, one that passes is at some key
    pub any_entry_is : (m : FinMap R X) → list_any test (entries m) ≡ true → (key : K) × (x : X) × (get m key ≡ Some x) × (test (key, x) ≡ true)
    any_entry_is m any =
        let found : SomeFound (entries m) = any_found (entries m) (entries_sorted m) any in
        (found.0, found.1, get-entries m found.0 ∙ found.2, found.3)

    -- and the other way round
    pub entry_is_any : (m : FinMap R X) (key : K) (x : X) → get m key ≡ Some x → test (key, x) ≡ true → list_any test (entries m) ≡ true
    entry_is_any m key x has is = found_any (entries m) key x (sym (get-entries m key) ∙ has) is
