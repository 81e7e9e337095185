-- Pairs that are sorted, equal ones kept once: their keys ascend, or one key has two values.
use Rattle.std.proofs.Common.{◌≡◌, List, [], ◌∷◌, Bool, true, false, cond, ◌||◌, ◌&&◌, not, T, Option, Some, None, refl, sym, ap, subst, ◌∙◌, Less, Equal, Greater}
use Rattle.std.specs.List.{AllByRecursion, list_any, dedup, dedup_from}
use Rattle.std.specs.List.Sorted.{IsPermutation, IsSorted, IsStrictlySortedBy}
use Rattle.std.specs.Ordering.{is_eq, is_lt, ordering_then}
use Rattle.std.specs.Cmp.{IsTotalOrder, on_total, then_total, tied_then}
use Rattle.std.specs.FinMap.{find, is_sorted, same_map, get-from_entries}
use Rattle.std.specs.FinMap.Entries.{below_all}
use Rattle.std.proofs.lemmas.Bool.{and_parts}
use Rattle.std.proofs.lemmas.List.Kept.{IsStrictlySortedBy-dedup}
use Rattle.std.proofs.lemmas.List.Sorted.{IsPermutation-map}
use Rattle.ov_specs.specs.values.Value as value
use Rattle.ov_specs.specs.values.Value.{AtomMap, atom_cmp, map_of}
use Rattle.ov_specs.specs.values.Reading.{differ_at_one_key, has_clash}
use Rattle.ov_specs.proofs.laws.Order.{atom_cmp_total, atom_cmp-IsAntisymmetric}
use Rattle.ov_specs.proofs.laws.Inserting.{same}
use Rattle.ov_specs.proofs.laws.Clashing.{same-is, differ-itself, has_clash-ascending}
use Rattle.ov_specs.proofs.laws.Truths.{cond-twice, or_truth}
use Rattle.ov_atoms.specs.declared.atom.Atom.{Atom}
use Rattle.ov_atoms.specs.Views.{atom_view, pair_view, pairs_view}
use Rattle.ov_atoms.proofs.Building.{atom_order}
use Rattle.ov_atoms.proofs.Ordered.{pair_order}
use Rattle.ov_atoms.proofs.Permuting.{pairs-permuted}
use Rattle.ov_atoms.proofs.Sorting.{equals}

abbrev Pair : Type 0
Pair = Atom × Atom

-- equal pairs in the code
abbrev pub equal_pairs : Pair → Pair → Bool
equal_pairs p q = equals p.0 q.0 && equals p.1 q.1

pair-is : (p q : Pair) → equal_pairs p q ≡ true → pair_view p ≡ pair_view q
pair-is p q e =
    let parts = and_parts (equals p.0 q.0) (equals p.1 q.1) e in
    λ i. (same-is (atom_view p.0) (atom_view q.0) parts.0 i, same-is (atom_view p.1) (atom_view q.1) parts.1 i)

or_again : (a b : Bool) → (a || (a || b)) ≡ (a || b)
or_again true b = refl
or_again false b = refl

and_truth : (b : Bool) → (b && true) ≡ b
and_truth true = refl
and_truth false = refl

-- ---- equal pairs kept once

any-dedup_from : (t : value.Atom × value.Atom → Bool) (k : Pair) (ps : List Pair) → list_any t (pairs_view (dedup_from equal_pairs k ps)) ≡ list_any t (pairs_view (k ∷ ps))
any-dedup_from t k [] = refl
any-dedup_from t k (p ∷ ps) =
    elim (equal_pairs p k) as (λ b. equal_pairs p k ≡ b → list_any t (pairs_view (cond b (dedup_from equal_pairs k ps) (k ∷ dedup_from equal_pairs p ps))) ≡ list_any t (pairs_view (k ∷ p ∷ ps))) [
      | true ↦ λ e. any-dedup_from t k ps ∙ (sym (or_again (t (pair_view k)) (list_any t (pairs_view ps))) ∙ ap (λ q. t (pair_view k) || (t q || list_any t (pairs_view ps))) (sym (pair-is p k e)))
      | false ↦ λ e. ap (λ b. t (pair_view k) || b) (any-dedup_from t p ps)
    ] refl

clash-dedup_from : (k : Pair) (ps : List Pair) → has_clash (pairs_view (dedup_from equal_pairs k ps)) ≡ has_clash (pairs_view (k ∷ ps))
clash-dedup_from k [] = refl
clash-dedup_from k (p ∷ ps) =
    elim (equal_pairs p k) as (λ b. equal_pairs p k ≡ b → has_clash (pairs_view (cond b (dedup_from equal_pairs k ps) (k ∷ dedup_from equal_pairs p ps))) ≡ has_clash (pairs_view (k ∷ p ∷ ps))) [
      | true ↦ λ e.
          let here = differ_at_one_key (pair_view k) in
          let later = list_any here (pairs_view ps) in
          let twice : has_clash (pair_view k ∷ pair_view k ∷ pairs_view ps) ≡ (later || has_clash (pairs_view ps)) =
          ap (λ b. (b || later) || (later || has_clash (pairs_view ps))) (differ-itself (pair_view k)) ∙ or_again later (has_clash (pairs_view ps)) in
          clash-dedup_from k ps ∙ (sym twice ∙ ap (λ q. has_clash (pair_view k ∷ q ∷ pairs_view ps)) (sym (pair-is p k e)))
      | false ↦ λ e. (λ i. any-dedup_from (differ_at_one_key (pair_view k)) p ps i || clash-dedup_from p ps i)
    ] refl

-- the value of a pair at its key, or what is found after it
abbrev first_or : value.Atom → value.Atom × value.Atom → Option value.Atom → Option value.Atom
first_or q e rest = cond (same q e.0) (Some e.1) rest

find-dedup_from : (q : value.Atom) (k : Pair) (ps : List Pair) → find atom_cmp q (pairs_view (dedup_from equal_pairs k ps)) ≡ find atom_cmp q (pairs_view (k ∷ ps))
find-dedup_from q k [] = refl
find-dedup_from q k (p ∷ ps) =
    elim (equal_pairs p k) as (λ b. equal_pairs p k ≡ b → find atom_cmp q (pairs_view (cond b (dedup_from equal_pairs k ps) (k ∷ dedup_from equal_pairs p ps))) ≡ find atom_cmp q (pairs_view (k ∷ p ∷ ps))) [
      | true ↦ λ e. find-dedup_from q k ps ∙ (cond-twice (same q (atom_view k.0)) (Some (atom_view k.1)) (find atom_cmp q (pairs_view ps)) ∙ ap (λ x. first_or q (pair_view k) (first_or q x (find atom_cmp q (pairs_view ps)))) (sym (pair-is p k e)))
      | false ↦ λ e. ap (first_or q (pair_view k)) (find-dedup_from q p ps)
    ] refl

clash-dedup : (ps : List Pair) → has_clash (pairs_view ps) ≡ has_clash (pairs_view (dedup equal_pairs ps))
clash-dedup [] = refl
clash-dedup (p ∷ ps) = sym (clash-dedup_from p ps)

find-dedup : (q : value.Atom) (ps : List Pair) → find atom_cmp q (pairs_view ps) ≡ find atom_cmp q (pairs_view (dedup equal_pairs ps))
find-dedup q [] = refl
find-dedup q (p ∷ ps) = sym (find-dedup_from q p ps)

map_of-dedup : (ps : List Pair) → map_of (pairs_view ps) ≡ map_of (pairs_view (dedup equal_pairs ps))
map_of-dedup ps =
    same_map atom_cmp_total atom_cmp-IsAntisymmetric _ _ (λ q.
    get-from_entries atom_cmp_total (pairs_view ps) q ∙ (find-dedup q ps ∙ sym (get-from_entries atom_cmp_total (pairs_view (dedup equal_pairs ps)) q)))

-- ---- pairs that ascend strictly, by keys and then by values

-- a key that is not below all later ones is one of them, with another value
clash-here : (p : Pair) (ps : List Pair) → AllByRecursion (λ q. pair_order p q ≡ Less) ps → below_all atom_cmp (atom_view p.0) (pairs_view ps) ≡ false → list_any (differ_at_one_key (pair_view p)) (pairs_view ps) ≡ true
clash-here p [] above low = cc
clash-here p (q ∷ ps) above low =
    let values = atom_cmp (atom_view p.1) (atom_view q.1) in
    elim (atom_cmp (atom_view p.0) (atom_view q.0)) as (λ o. ordering_then o values ≡ Less → (is_lt o && below_all atom_cmp (atom_view p.0) (pairs_view ps)) ≡ false → ((is_eq o && not (is_eq values)) || list_any (differ_at_one_key (pair_view p)) (pairs_view ps)) ≡ true) [
      | Less ↦ λ less low. clash-here p ps above.1 low
      | Equal ↦ λ less low. ap (λ o. not (is_eq o) || list_any (differ_at_one_key (pair_view p)) (pairs_view ps)) less
      | Greater ↦ λ less low. cc
    ] above.0 low

clash-unsorted : (ps : List Pair) → IsStrictlySortedBy pair_order ps → is_sorted atom_cmp (pairs_view ps) ≡ false → has_clash (pairs_view ps) ≡ true
unfolding IsStrictlySortedBy
clash-unsorted [] up low = cc
clash-unsorted (p ∷ ps) up low =
    let here = list_any (differ_at_one_key (pair_view p)) (pairs_view ps) in
    elim (is_sorted atom_cmp (pairs_view ps)) as (λ b. is_sorted atom_cmp (pairs_view ps) ≡ b → (below_all atom_cmp (atom_view p.0) (pairs_view ps) && b) ≡ false → (here || has_clash (pairs_view ps)) ≡ true) [
      | true ↦ λ is low. ap (λ b. b || has_clash (pairs_view ps)) (clash-here p ps up.0 (sym (and_truth _) ∙ low))
      | false ↦ λ is low. ap (λ b. here || b) (clash-unsorted ps up.1 is) ∙ or_truth here
    ] refl low

pair_order_total : IsTotalOrder pair_order
pair_order_total = then_total (on_total (λ t. t.0) (on_total atom_view atom_cmp_total)) (on_total (λ t. t.1) (on_total atom_view atom_cmp_total))

module _ {B : Type 0} (f : AtomMap → B) where
  -- no pairs if they clash, or what their map stands for
  abbrev unless_clash : List Pair → Option B
  unless_clash ps = cond (has_clash (pairs_view ps)) None (Some (f (map_of (pairs_view ps))))

  -- what their map stands for if they ascend, or nothing
  abbrev pub if_sorted : List Pair → Option B
  if_sorted ps = cond (is_sorted atom_cmp (pairs_view ps)) (Some (f (map_of (pairs_view ps)))) None

  strictly_sorted : (ps : List Pair) → IsStrictlySortedBy pair_order ps → unless_clash ps ≡ if_sorted ps
  strictly_sorted ps up =
      let all = Some (f (map_of (pairs_view ps))) in
      elim (is_sorted atom_cmp (pairs_view ps)) as (λ b. is_sorted atom_cmp (pairs_view ps) ≡ b → unless_clash ps ≡ cond b all None) [
        | true ↦ λ is. ap (λ b. cond b None all) (has_clash-ascending (pairs_view ps) (subst T (sym is) tt))
        | false ↦ λ is. ap (λ b. cond b None all) (clash-unsorted ps up is)
      ] refl

  -- what pairs stand for, once they are sorted and equal ones merged
  pub merged : (ps sorted kept : List Pair) → IsPermutation ps sorted → IsSorted pair_order sorted → kept ≡ dedup equal_pairs sorted → unless_clash ps ≡ if_sorted kept
  merged ps sorted kept moved up is =
      let strictly : IsStrictlySortedBy pair_order (dedup equal_pairs sorted) = IsStrictlySortedBy-dedup pair_order_total (λ p q. tied_then (atom_order p.0 q.0) (atom_order p.1 q.1)) sorted up in
      pairs-permuted (pairs_view ps) (pairs_view sorted) (IsPermutation-map pair_view _ _ moved) f
      ∙ ((λ i. cond (clash-dedup sorted i) None (Some (f (map_of-dedup sorted i)))) ∙ (strictly_sorted (dedup equal_pairs sorted) strictly ∙ ap if_sorted (sym is)))
