-- Pairs that ascend by their keys, by each pair and the next.
use Rattle.std.proofs.Common.{◌≡◌, ℕ, zero, suc, ◌+◌, ◌<◌, ◌≤◌, List, [], ◌∷◌, length, get_or, drop, Bool, true, false, ◌&&◌, T, refl, sym, ap, subst, arith, Less}
use Rattle.std.specs.Ordering.{is_lt}
use Rattle.std.specs.FinMap.{is_sorted}
use Rattle.std.specs.FinMap.Entries.{below_all}
use Rattle.ov_specs.specs.values.Value as value
use Rattle.ov_specs.specs.values.Value.{atom_cmp}
use Rattle.ov_specs.proofs.laws.Order.{atom_cmp_total}
use Rattle.ov_atoms.specs.declared.atom.Atom.{Atom}
use Rattle.ov_atoms.specs.Views.{pair_view, pairs_view}
use Rattle.ov_atoms.proofs.Building.{atom_order}
use Rattle.ov_specs.proofs.laws.Truths.{both_hold, left_holds, less_is, right_holds}

below-less : (x y : value.Atom) (es : List (value.Atom × value.Atom)) → atom_cmp x y ≡ Less → T (below_all atom_cmp y es) → T (below_all atom_cmp x es)
below-less x y [] p h = tt
below-less x y (e ∷ es) p h =
    both_hold _ _ (subst (λ o. T (is_lt o)) (sym (atom_cmp_total.trans x y e.0 p (less_is _ (left_holds _ _ h)))) tt) (below-less x y es p (right_holds _ _ h))

is-true : (b : Bool) → T b → b ≡ true
is-true true h = refl
is-true false h = absurd h

and_false : (b : Bool) → (b && false) ≡ false
and_false true = refl
and_false false = refl

in_front : (x y : value.Atom × value.Atom) (es : List (value.Atom × value.Atom)) → atom_cmp x.0 y.0 ≡ Less → is_sorted atom_cmp (x ∷ y ∷ es) ≡ is_sorted atom_cmp (y ∷ es)
in_front x y es p =
    let up = is_sorted atom_cmp (y ∷ es) in
    elim up as (λ b. up ≡ b → (below_all atom_cmp x.0 (y ∷ es) && b) ≡ b) [
      | true ↦ λ h.
          let later = below-less x.0 y.0 es p (left_holds (below_all atom_cmp y.0 es) (is_sorted atom_cmp es) (subst T (sym h) tt)) in
          ap (λ b. b && true) (is-true (below_all atom_cmp x.0 (y ∷ es)) (both_hold _ _ (subst (λ o. T (is_lt o)) (sym p) tt) later))
      | false ↦ λ h. and_false (below_all atom_cmp x.0 (y ∷ es))
    ] refl

-- the pair at i comes before the next one: the pairs ascend if they do so from there
pub ascend-from : (ps : List (Atom × Atom)) (i j k : ℕ) (x y : Atom × Atom) → j < length ps → j ≡ i + 1 → k ≡ j → atom_order (get_or ps i x).0 (get_or ps j y).0 ≡ Less
    → is_sorted atom_cmp (pairs_view (drop i ps)) ≡ is_sorted atom_cmp (pairs_view (drop k ps))
ascend-from [] i j k x y h next same p = absurd (omega arith)
ascend-from (a ∷ []) i j k x y h next same p = absurd (omega arith)
ascend-from (a ∷ b ∷ ps) zero zero k x y h next same p = absurd (omega arith)
ascend-from (a ∷ b ∷ ps) zero (suc zero) k x y h next same p = rw same (in_front (pair_view a) (pair_view b) (pairs_view ps) p)
ascend-from (a ∷ b ∷ ps) zero (suc (suc j)) k x y h next same p = absurd (omega arith)
ascend-from (a ∷ b ∷ ps) (suc i) zero k x y h next same p = absurd (omega arith)
ascend-from (a ∷ b ∷ ps) (suc i) (suc j) zero x y h next same p = absurd (omega arith)
ascend-from (a ∷ b ∷ ps) (suc i) (suc j) (suc k) x y h next same p =
    ascend-from (b ∷ ps) i j k x y (omega arith) (omega arith) (omega arith) p

-- the pair at i does not come before the next one
pub descend-at : (ps : List (Atom × Atom)) (i j : ℕ) (x y : Atom × Atom) → j < length ps → j ≡ i + 1 → is_lt (atom_order (get_or ps i x).0 (get_or ps j y).0) ≡ false
    → is_sorted atom_cmp (pairs_view (drop i ps)) ≡ false
descend-at [] i j x y h next p = absurd (omega arith)
descend-at (a ∷ []) i j x y h next p = absurd (omega arith)
descend-at (a ∷ b ∷ ps) zero zero x y h next p = absurd (omega arith)
descend-at (a ∷ b ∷ ps) zero (suc zero) x y h next p = rw p refl
descend-at (a ∷ b ∷ ps) zero (suc (suc j)) x y h next p = absurd (omega arith)
descend-at (a ∷ b ∷ ps) (suc i) zero x y h next p = absurd (omega arith)
descend-at (a ∷ b ∷ ps) (suc i) (suc j) x y h next p = descend-at (b ∷ ps) i j x y (omega arith) (omega arith) p

-- one pair at most ascends
pub ascend-end : (ps : List (Atom × Atom)) (i : ℕ) → length ps ≤ i + 1 → is_sorted atom_cmp (pairs_view (drop i ps)) ≡ true
ascend-end [] zero h = refl
ascend-end [] (suc i) h = refl
ascend-end (a ∷ []) zero h = refl
ascend-end (a ∷ b ∷ ps) zero h = absurd (omega arith)
ascend-end (a ∷ ps) (suc i) h = ascend-end ps i (omega arith)
