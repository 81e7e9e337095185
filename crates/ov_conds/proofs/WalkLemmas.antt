-- What a walk along two ascending lists finds is what a search through the whole list finds.
use Rattle.std.proofs.Common.{◌≡◌, List, [], ◌∷◌, map, Bool, true, false, T, ◌&&◌, ◌||◌, if◌then◌else◌, refl, sym, ap, subst, ◌∙◌, Less, Equal, Greater}
use Rattle.std.specs.List.{list_any, list_all}
use Rattle.std.specs.Ordering.{is_lt, ordering_reverse}
use Rattle.std.specs.FinMap.{is_sorted}
use Rattle.std.specs.FinMap.Entries.{below_all}
use Rattle.ov_specs.specs.values.Value.{Atom, atom_cmp}
use Rattle.ov_specs.proofs.laws.Order.{atom_cmp_total, atom_cmp-IsAntisymmetric}
use Rattle.ov_conds.specs.Walks.{from_key, is_first}
use Rattle.ov_specs.proofs.laws.Truths.{both_hold, left_holds, less_is, right_holds}

-- ---- truth values

or_false : (a b : Bool) → b ≡ false → (a || b) ≡ a
or_false true b e = refl
or_false false b e = e

-- ---- the order of keys

-- a key that is not below k is below another: so is k
reaches : (k x y : Atom) → is_lt (atom_cmp x k) ≡ false → atom_cmp x y ≡ Less → atom_cmp k y ≡ Less
reaches k x y past up =
    elim (atom_cmp x k) as (λ o. atom_cmp x k ≡ o → is_lt o ≡ false → atom_cmp k y ≡ Less) [
      | Less ↦ λ e p. cc
      | Equal ↦ λ e p. ap (λ a. atom_cmp a y) (sym (atom_cmp-IsAntisymmetric x k e)) ∙ up
      | Greater ↦ λ e p. atom_cmp_total.trans k x y (atom_cmp_total.antisymm k x ∙ ap ordering_reverse e) up
    ] refl past

-- ---- ascending lists

module _ {A : Type 0} (key : A → Atom) where
  abbrev pub below : Atom → List A → Bool
  below k [] = true
  below k (x ∷ xs) = is_lt (atom_cmp k (key x)) && below k xs

  abbrev pub ascends : List A → Bool
  ascends [] = true
  ascends (x ∷ xs) = below (key x) xs && ascends xs

  pub ascends-from_key : (k : Atom) (xs : List A) → T (ascends xs) → T (ascends (from_key key k xs))
  ascends-from_key k [] h = tt
  ascends-from_key k (x ∷ xs) h =
      elim (is_lt (atom_cmp (key x) k)) as (λ b. T (ascends (if b then from_key key k xs else x ∷ xs))) [
        | true ↦ ascends-from_key k xs (right_holds (below (key x) xs) (ascends xs) h)
        | false ↦ h
      ]

  module _ (test : A → Bool) where
    pub none-below : (k : Atom) → ((x : A) → atom_cmp k (key x) ≡ Less → test x ≡ false) → (xs : List A) → T (below k xs) → list_any test xs ≡ false
    none-below k apart [] h = refl
    none-below k apart (x ∷ xs) h =
        ap (λ b. b || list_any test xs) (apart x (less_is _ (left_holds (is_lt (atom_cmp k (key x))) (below k xs) h)))
        ∙ none-below k apart xs (right_holds (is_lt (atom_cmp k (key x))) (below k xs) h)

    none-after : (k x : Atom) → is_lt (atom_cmp x k) ≡ false → ((y : A) → atom_cmp k (key y) ≡ Less → test y ≡ false) → (xs : List A) → T (below x xs) → list_any test xs ≡ false
    none-after k x past apart xs h = none-below x (λ y up. apart y (reaches k x (key y) past up)) xs h

    -- what is passed over is not what is sought
    pub list_any-from_key : (k : Atom) → ((x : A) → atom_cmp (key x) k ≡ Less → test x ≡ false) → (xs : List A) → list_any test (from_key key k xs) ≡ list_any test xs
    list_any-from_key k apart [] = refl
    list_any-from_key k apart (x ∷ xs) =
        elim (is_lt (atom_cmp (key x) k)) as (λ b. is_lt (atom_cmp (key x) k) ≡ b → list_any test (if b then from_key key k xs else x ∷ xs) ≡ (test x || list_any test xs)) [
          | true ↦ λ e. list_any-from_key k apart xs ∙ sym (ap (λ b. b || list_any test xs) (apart x (less_is _ (subst T (sym e) tt))))
          | false ↦ λ e. refl
        ] refl

    -- what is sought at a key stands first, or nowhere
    is_first-any : (k : Atom) → ((y : A) → atom_cmp k (key y) ≡ Less → test y ≡ false) → (xs : List A) → T (ascends xs) → is_first test (from_key key k xs) ≡ list_any test (from_key key k xs)
    is_first-any k apart [] h = refl
    is_first-any k apart (x ∷ xs) h =
        elim (is_lt (atom_cmp (key x) k)) as (λ b. is_lt (atom_cmp (key x) k) ≡ b → is_first test (if b then from_key key k xs else x ∷ xs) ≡ list_any test (if b then from_key key k xs else x ∷ xs)) [
          | true ↦ λ e. is_first-any k apart xs (right_holds (below (key x) xs) (ascends xs) h)
          | false ↦ λ e. sym (or_false (test x) (list_any test xs) (none-after k (key x) e apart xs (left_holds (below (key x) xs) (ascends xs) h)))
        ] refl

    pub is_first-from_key : (k : Atom) → ((x : A) → atom_cmp (key x) k ≡ Less → test x ≡ false) → ((x : A) → atom_cmp k (key x) ≡ Less → test x ≡ false) → (xs : List A) → T (ascends xs)
        → is_first test (from_key key k xs) ≡ list_any test xs
    is_first-from_key k below above xs h = is_first-any k above xs h ∙ list_any-from_key k below xs

-- ---- the entries of a map ascend

module _ {X : Type 0} where
  keys-below : (k : Atom) (es : List (Atom × X)) → T (below_all atom_cmp k es) → T (below (λ a. a) k (map (λ e. e.0) es))
  keys-below k [] h = tt
  keys-below k (e ∷ es) h = both_hold _ _ (left_holds (is_lt (atom_cmp k e.0)) (below_all atom_cmp k es) h) (keys-below k es (right_holds (is_lt (atom_cmp k e.0)) (below_all atom_cmp k es) h))

  pub keys-ascend : (es : List (Atom × X)) → T (is_sorted atom_cmp es) → T (ascends (λ a. a) (map (λ e. e.0) es))
  keys-ascend [] h = tt
  keys-ascend (e ∷ es) h = both_hold _ _ (keys-below e.0 es (left_holds (below_all atom_cmp e.0 es) (is_sorted atom_cmp es) h)) (keys-ascend es (right_holds (below_all atom_cmp e.0 es) (is_sorted atom_cmp es) h))

  entries-below : (k : Atom) (es : List (Atom × X)) → T (below_all atom_cmp k es) → T (below (λ e. e.0) k es)
  entries-below k [] h = tt
  entries-below k (e ∷ es) h = both_hold _ _ (left_holds (is_lt (atom_cmp k e.0)) (below_all atom_cmp k es) h) (entries-below k es (right_holds (is_lt (atom_cmp k e.0)) (below_all atom_cmp k es) h))

  pub entries-ascend : (es : List (Atom × X)) → T (is_sorted atom_cmp es) → T (ascends (λ e. e.0) es)
  entries-ascend [] h = tt
  entries-ascend (e ∷ es) h = both_hold _ _ (entries-below e.0 es (left_holds (below_all atom_cmp e.0 es) (is_sorted atom_cmp es) h)) (entries-ascend es (right_holds (below_all atom_cmp e.0 es) (is_sorted atom_cmp es) h))

-- ---- walks

-- elements with keys, and what is asked for at keys: two of unequal keys are never the same
module _ {A C : Type 0} (key : A → Atom) (at : C → Atom) (same : A → C → Bool) (apart : (x : A) (c : C) → atom_cmp (key x) (at c) ≡ Less → same x c ≡ false)
    (beyond : (x : A) (c : C) → atom_cmp (at c) (key x) ≡ Less → same x c ≡ false) where
  abbrev pub has : List A → C → Bool
  has xs c = list_any (λ x. same x c) xs

  -- the element that is asked for, found where the walk stands
  pub is_first-has : (xs : List A) (c : C) → T (ascends key xs) → is_first (λ x. same x c) (from_key key (at c) xs) ≡ has xs c
  is_first-has xs c h = is_first-from_key key (λ x. same x c) (at c) (λ x up. apart x c up) (λ x up. beyond x c up) xs h

  -- nothing is lost for what is asked for later
  pub has-from_key : (k : Atom) (xs : List A) (c : C) → atom_cmp k (at c) ≡ Less → has (from_key key k xs) c ≡ has xs c
  has-from_key k xs c up = list_any-from_key key (λ x. same x c) k (λ x before. apart x c (atom_cmp_total.trans (key x) k (at c) before up)) xs

  module _ (g : Bool → Bool) where
    all-later : (k : Atom) (xs : List A) (cs : List C) → T (below at k cs) → list_all (λ c. g (has (from_key key k xs) c)) cs ≡ list_all (λ c. g (has xs c)) cs
    all-later k xs [] h = refl
    all-later k xs (c ∷ cs) h =
        let here = has-from_key k xs c (less_is _ (left_holds (is_lt (atom_cmp k (at c))) (below at k cs) h)) in
        let rest = all-later k xs cs (right_holds (is_lt (atom_cmp k (at c))) (below at k cs) h) in
        λ i. g (here i) && rest i

    -- a walk that asks for one element after another
    pub walk-all : (walk : List A → List C → Bool) → ((xs : List A) → walk xs [] ≡ true)
        → ((xs : List A) (c : C) (cs : List C) → walk xs (c ∷ cs) ≡ (g (is_first (λ x. same x c) (from_key key (at c) xs)) && walk (from_key key (at c) xs) cs))
        → (xs : List A) (cs : List C) → T (ascends key xs) → T (ascends at cs) → walk xs cs ≡ list_all (λ c. g (has xs c)) cs
    walk-all walk none one xs [] h j = none xs
    walk-all walk none one xs (c ∷ cs) h j =
        let here = is_first-has xs c h in
        let later = walk-all walk none one (from_key key (at c) xs) cs (ascends-from_key key (at c) xs h) (right_holds (below at (at c) cs) (ascends at cs) j)
        ∙ all-later (at c) xs cs (left_holds (below at (at c) cs) (ascends at cs) j) in
        one xs c cs ∙ λ i. g (here i) && later i
