-- Names of columns in their order, and the entries of a map by name.
use Rattle.std.proofs.Common.{◌≡◌, ℕ, List, [], ◌∷◌, Bool, true, false, cond, T, Some, None, refl, sym, ap, ◌∙◌}
use Rattle.std.specs.Ordering.{eq_by_cmp}
use Rattle.std.specs.Cmp.{IsTotalOrder, eq_by_cmp_equiv}
use Rattle.std.specs.Cmp.Lexicographic.{nat_list_cmp_total}
use Rattle.std.specs.FinMap.{FinMap, IsAntisymmetric, nat_cmp-IsAntisymmetric, slice_cmp-IsAntisymmetric, find, is_sorted, get, get-entries, entries, entries_sorted}
use Rattle.std.specs.FinMap.Entries.{below_all}
use Rattle.ov_specs.specs.schema.SchemaTypes.{name_cmp}
use Rattle.ov_specs.proofs.laws.Truths.{left_holds, right_holds, equal_is, not_tied}

pub name_cmp_total : IsTotalOrder name_cmp
name_cmp_total = nat_list_cmp_total

pub name_exact : IsAntisymmetric name_cmp
name_exact = slice_cmp-IsAntisymmetric nat_cmp-IsAntisymmetric

abbrev pub same_name : List ℕ → List ℕ → Bool
same_name = eq_by_cmp name_cmp

pub same_name-is : (a b : List ℕ) → same_name a b ≡ true → a ≡ b
same_name-is a b h = name_exact a b (equal_is _ h)

pub same_name-itself : (a : List ℕ) → same_name a a ≡ true
same_name-itself a = (eq_by_cmp_equiv name_cmp_total).refl a

-- what holds of each entry by itself
abbrev pub EachEntry : {X : Type 0} → (List ℕ → X → Type 0) → List (List ℕ × X) → Type 0
EachEntry P [] = Unit {0}
EachEntry P (e ∷ es) = P e.0 e.1 × EachEntry P es

module _ {X : Type 0} where
  -- what is below all names is none of them
  find-below : (name : List ℕ) (es : List (List ℕ × X)) → T (below_all name_cmp name es) → find name_cmp name es ≡ None
  find-below name [] h = refl
  find-below name (e ∷ es) h =
      ap (λ b. cond b (Some e.1) (find name_cmp name es)) (not_tied (name_cmp name e.0) (left_holds _ _ h)) ∙ find-below name es (right_holds _ _ h)

  -- the first name does not come again
  pub find-first_not_later : (e : List ℕ × X) (es : List (List ℕ × X)) (name : List ℕ) → T (is_sorted name_cmp (e ∷ es)) → same_name name e.0 ≡ true → find name_cmp name es ≡ None
  find-first_not_later e es name h is = ap (λ n. find name_cmp n es) (same_name-is name e.0 is) ∙ find-below e.0 es (left_holds _ _ h)

  pub sorted_rest : (e : List ℕ × X) (es : List (List ℕ × X)) → T (is_sorted name_cmp (e ∷ es)) → T (is_sorted name_cmp es)
  sorted_rest e es h = right_holds _ _ h

  -- what is found after the first entry is found in the whole
  find-later : (e : List ℕ × X) (es : List (List ℕ × X)) (name : List ℕ) (x : X) → T (is_sorted name_cmp (e ∷ es)) → find name_cmp name es ≡ Some x → find name_cmp name (e ∷ es) ≡ Some x
  find-later e es name x h found = by (same_name name e.0) refl
    where
      no : find name_cmp e.0 es ≡ None → find name_cmp e.0 es ≡ Some x → ⊥
      no n s = cc

      by : (b : Bool) → same_name name e.0 ≡ b → cond b (Some e.1) (find name_cmp name es) ≡ Some x
      by false is = found
      by true is = absurd (no (find-below e.0 es (left_holds _ _ h)) (sym (ap (λ n. find name_cmp n es) (same_name-is name e.0 is)) ∙ found))

  -- what holds of each value that is found holds of each entry
  each_found : (P : List ℕ → X → Type 0) (es : List (List ℕ × X)) → T (is_sorted name_cmp es) → ((name : List ℕ) (x : X) → find name_cmp name es ≡ Some x → P name x) → EachEntry P es
  each_found P [] h all = tt
  each_found P (e ∷ es) h all = (
    all e.0 e.1 (ap (λ b. cond b (Some e.1) (find name_cmp e.0 es)) (same_name-itself e.0)),
    each_found P es (right_holds _ _ h) (λ name x found. all name x (find-later e es name x h found)),
  )

  -- each entry stands at its name
  pub each_entry : (m : FinMap name_cmp X) → EachEntry (λ name x. get m name ≡ Some x) (entries m)
  each_entry m = each_found (λ name x. get m name ≡ Some x) (entries m) (entries_sorted m) (λ name x found. get-entries m name ∙ found)
