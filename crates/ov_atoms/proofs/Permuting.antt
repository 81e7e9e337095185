-- Pairs in another order: they clash where they did, and make the same map.
use Rattle.std.proofs.Common.{◌≡◌, List, [], ◌∷◌, Bool, true, false, cond, ◌||◌, ◌&&◌, not, Some, None, refl, sym, ap, ◌∙◌}
use Rattle.std.specs.List.{list_any}
use Rattle.std.specs.List.Sorted.{IsPermutation}
use Rattle.std.specs.FinMap.{find, same_map, get-from_entries}
use Rattle.std.proofs.lemmas.Bool.{and_parts, or_parts}
use Rattle.std.proofs.lemmas.List.Sorted.{list_any-IsPermutation}
use Rattle.ov_specs.specs.values.Value.{Atom, AtomMap, atom_cmp, map_of}
use Rattle.ov_specs.specs.values.Reading.{differ_at_one_key, has_clash}
use Rattle.ov_specs.proofs.laws.Order.{atom_cmp_total, atom_cmp-IsAntisymmetric}
use Rattle.ov_specs.proofs.laws.Inserting.{same}
use Rattle.ov_specs.proofs.laws.Clashing.{same-is, same-itself, differ-swap, differ-itself, or_regroup}

abbrev Pair : Type 0
Pair = Atom × Atom

-- ---- a clash

or_twice : (a b : Bool) → (a || (a || b)) ≡ (a || b)
or_twice true b = refl
or_twice false b = refl

any_or : (f g : Pair → Bool) (es : List Pair) → list_any (λ p. f p || g p) es ≡ (list_any f es || list_any g es)
any_or f g [] = refl
any_or f g (e ∷ es) = ap (λ b. (f e || g e) || b) (any_or f g es) ∙ or_regroup (f e) (g e) (list_any f es) (list_any g es)

any_alike : (f g : Pair → Bool) (es : List Pair) → ((p : Pair) → f p ≡ g p) → list_any f es ≡ list_any g es
any_alike f g es h = ap (λ t. list_any t es) (λ i p. h p i)

-- it differs at its key from one of them
abbrev differs : List Pair → Pair → Bool
differs es p = list_any (differ_at_one_key p) es

-- a clash, defined without an order
clash-any : (es : List Pair) → has_clash es ≡ list_any (differs es) es
clash-any [] = refl
clash-any (e ∷ es) =
    let here : Bool = differs es e in
    let later : list_any (λ p. differ_at_one_key p e || differs es p) es ≡ (here || has_clash es) =
    any_or (λ p. differ_at_one_key p e) (differs es) es
    ∙ (ap (λ b. b || list_any (differs es) es) (any_alike (λ p. differ_at_one_key p e) (differ_at_one_key e) es (λ p. differ-swap p e)) ∙ ap (λ b. here || b) (sym (clash-any es))) in
    sym (ap (λ b. (b || here) || list_any (λ p. differ_at_one_key p e || differs es p) es) (differ-itself e) ∙ (ap (λ b. here || b) later ∙ or_twice here (has_clash es)))

-- ---- what is found

-- a pair of this key
abbrev is_at : Atom → Pair → Bool
is_at q p = same q p.0

-- a pair of this key and this value
abbrev is_pair : Atom → Atom → Pair → Bool
is_pair q v p = same q p.0 && same v p.1

some-is : (a b : Atom) → Some a ≡ Some b → a ≡ b
some-is a b e = cc

unfound : (q : Atom) (es : List Pair) → find atom_cmp q es ≡ None → list_any (is_at q) es ≡ false
unfound q [] h = refl
unfound q (e ∷ es) h =
    elim (same q e.0) as (λ b. cond b (Some e.1) (find atom_cmp q es) ≡ None → (b || list_any (is_at q) es) ≡ false) [
      | true ↦ λ h. cc
      | false ↦ λ h. unfound q es h
    ] h

nowhere : (q : Atom) (es : List Pair) → list_any (is_at q) es ≡ false → find atom_cmp q es ≡ None
nowhere q [] h = refl
nowhere q (e ∷ es) h =
    elim (same q e.0) as (λ b. (b || list_any (is_at q) es) ≡ false → cond b (Some e.1) (find atom_cmp q es) ≡ None) [
      | true ↦ λ h. cc
      | false ↦ λ h. nowhere q es h
    ] h

found-there : (q v : Atom) (es : List Pair) → find atom_cmp q es ≡ Some v → list_any (is_pair q v) es ≡ true
found-there q v [] h = cc
found-there q v (e ∷ es) h =
    elim (same q e.0) as (λ b. cond b (Some e.1) (find atom_cmp q es) ≡ Some v → ((b && same v e.1) || list_any (is_pair q v) es) ≡ true) [
      | true ↦ λ h. ap (λ b. b || list_any (is_pair q v) es) (ap (same v) (some-is e.1 v h) ∙ same-itself v)
      | false ↦ λ h. found-there q v es h
    ] h

alike : (b : Bool) → not b ≡ false → b ≡ true
alike true h = refl
alike false h = cc

-- a pair that differs from none of them has the value of those with its key
same_value : (e : Pair) (q v : Atom) (es : List Pair) → differs es e ≡ false → same q e.0 ≡ true → list_any (is_pair q v) es ≡ true → e.1 ≡ v
same_value e q v [] none at h = cc
same_value e q v (p ∷ es) none at h =
    let parts = or_parts (differ_at_one_key e p) (differs es e) none in
    elim (is_pair q v p) as (λ b. is_pair q v p ≡ b → (b || list_any (is_pair q v) es) ≡ true → e.1 ≡ v) [
      | true ↦ λ here h.
          let is = and_parts (same q p.0) (same v p.1) here in
          let key : same e.0 p.0 ≡ true = ap (λ a. same a p.0) (sym (same-is q e.0 at)) ∙ is.0 in
          let value : same e.1 p.1 ≡ true = alike (same e.1 p.1) (ap (λ b. b && not (same e.1 p.1)) (sym key) ∙ parts.0) in
          same-is e.1 p.1 value ∙ sym (same-is v p.1 is.1)
      | false ↦ λ here h. same_value e q v es parts.1 at h
    ] refl h

there-found : (q v : Atom) (es : List Pair) → has_clash es ≡ false → list_any (is_pair q v) es ≡ true → find atom_cmp q es ≡ Some v
there-found q v [] none h = cc
there-found q v (e ∷ es) none h =
    let parts = or_parts (differs es e) (has_clash es) none in
    elim (same q e.0) as (λ b. same q e.0 ≡ b → ((b && same v e.1) || list_any (is_pair q v) es) ≡ true → cond b (Some e.1) (find atom_cmp q es) ≡ Some v) [
      | true ↦ λ at h.
          ap Some (elim (same v e.1) as (λ b. same v e.1 ≡ b → (b || list_any (is_pair q v) es) ≡ true → e.1 ≡ v) [
            | true ↦ λ is h. sym (same-is v e.1 is)
            | false ↦ λ is h. same_value e q v es parts.0 at h
          ] refl h)
      | false ↦ λ at h. there-found q v es parts.1 h
    ] refl h

-- ---- another order

module _ (xs ys : List Pair) (moved : IsPermutation xs ys) where
  -- they clash where they did
  pub has_clash-permuted : has_clash xs ≡ has_clash ys
  has_clash-permuted =
      clash-any xs
      ∙ (list_any-IsPermutation (differs xs) xs ys moved
      ∙ (any_alike (differs xs) (differs ys) ys (λ p. list_any-IsPermutation (differ_at_one_key p) xs ys moved) ∙ sym (clash-any ys)))

  find-permuted : has_clash xs ≡ false → (q : Atom) → find atom_cmp q xs ≡ find atom_cmp q ys
  find-permuted none q =
      elim (find atom_cmp q xs) as (λ o. find atom_cmp q xs ≡ o → o ≡ find atom_cmp q ys) [
        | None ↦ λ h. sym (nowhere q ys (sym (list_any-IsPermutation (is_at q) xs ys moved) ∙ unfound q xs h))
        | Some v ↦ λ h. sym (there-found q v ys (sym has_clash-permuted ∙ none) (sym (list_any-IsPermutation (is_pair q v) xs ys moved) ∙ found-there q v xs h))
      ] refl

  -- they make the same map
  pub map_of-permuted : has_clash xs ≡ false → map_of xs ≡ map_of ys
  map_of-permuted none =
      same_map atom_cmp_total atom_cmp-IsAntisymmetric _ _ (λ q.
      get-from_entries atom_cmp_total xs q ∙ (find-permuted none q ∙ sym (get-from_entries atom_cmp_total ys q)))

  -- they stand for the same, or for nothing
  pub pairs-permuted : {B : Type 0} (f : AtomMap → B) → cond (has_clash xs) None (Some (f (map_of xs))) ≡ cond (has_clash ys) None (Some (f (map_of ys)))
  pairs-permuted f =
      elim (has_clash xs) as (λ b. has_clash xs ≡ b → cond b None (Some (f (map_of xs))) ≡ cond (has_clash ys) None (Some (f (map_of ys)))) [
        | true ↦ λ h. rw (sym has_clash-permuted ∙ h) refl
        | false ↦ λ h. rw (sym has_clash-permuted ∙ h, map_of-permuted h) refl
      ] refl
