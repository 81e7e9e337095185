-- Atoms that are sorted, each kept once.
use Rattle.std.proofs.Common.{◌≡◌, List, [], ◌∷◌, map, Bool, true, false, cond, ◌||◌, T, Some, None, refl, sym, ap, ◌∙◌}
use Rattle.std.specs.List.{list_any, dedup, dedup_from}
use Rattle.std.specs.List.Sorted.{IsPermutation, IsSorted}
use Rattle.std.specs.Ordering.{eq_by_cmp}
use Rattle.std.specs.Cmp.{on_total}
use Rattle.std.specs.FinMap.{same_map, get-from_entries, is_sorted}
use Rattle.std.proofs.lemmas.List.Sorted.{list_any-IsPermutation}
use Rattle.std.proofs.lemmas.List.Kept.{IsStrictlySortedBy-dedup}
use Rattle.ov_specs.specs.values.Value as value
use Rattle.ov_specs.specs.values.Value.{atom_cmp, marked, set_of}
use Rattle.ov_specs.proofs.laws.Order.{atom_cmp_total, atom_cmp-IsAntisymmetric}
use Rattle.ov_specs.proofs.laws.Inserting.{same, found}
use Rattle.ov_specs.proofs.laws.Clashing.{same-is}
use Rattle.ov_atoms.specs.declared.atom.Atom.{Atom}
use Rattle.ov_atoms.specs.Views.{atom_view, atoms_view}
use Rattle.ov_atoms.proofs.Building.{atom_order, atoms-ascend}
use Rattle.ov_specs.proofs.laws.Truths.{cond-twice}

-- equal atoms in the code
abbrev pub equals : Atom → Atom → Bool
equals = eq_by_cmp atom_order

found-list_any : (q : value.Atom) (xs : List Atom) → found q (atoms_view xs) ≡ cond (list_any (λ a. same q (atom_view a)) xs) (Some tt) None
found-list_any q [] = refl
found-list_any q (x ∷ xs) = elim (same q (atom_view x)) as (λ b. cond b (Some tt) (found q (atoms_view xs)) ≡ cond (b || list_any (λ a. same q (atom_view a)) xs) (Some tt) None) [
  | true ↦ refl
  | false ↦ found-list_any q xs
]

found-dedup_from : (q : value.Atom) (k : Atom) (xs : List Atom) → found q (atoms_view (dedup_from equals k xs)) ≡ found q (atoms_view (k ∷ xs))
found-dedup_from q k [] = refl
found-dedup_from q k (x ∷ xs) =
    elim (equals x k) as (λ b. equals x k ≡ b → found q (atoms_view (cond b (dedup_from equals k xs) (k ∷ dedup_from equals x xs))) ≡ found q (atoms_view (k ∷ x ∷ xs))) [
      | true ↦ λ e. found-dedup_from q k xs ∙ (cond-twice (same q (atom_view k)) (Some tt) (found q (atoms_view xs)) ∙ ap (λ a. cond (same q (atom_view k)) (Some tt) (cond (same q a) (Some tt) (found q (atoms_view xs)))) (sym (same-is (atom_view x) (atom_view k) e)))
      | false ↦ λ e. ap (cond (same q (atom_view k)) (Some tt)) (found-dedup_from q x xs)
    ] refl

found-dedup : (q : value.Atom) (xs : List Atom) → found q (atoms_view (dedup equals xs)) ≡ found q (atoms_view xs)
found-dedup q [] = refl
found-dedup q (x ∷ xs) = found-dedup_from q x xs

found-permuted : (q : value.Atom) (xs ys : List Atom) → IsPermutation xs ys → found q (atoms_view xs) ≡ found q (atoms_view ys)
found-permuted q xs ys moved =
    found-list_any q xs ∙ (ap (λ b. cond b (Some tt) None) (list_any-IsPermutation (λ a. same q (atom_view a)) xs ys moved) ∙ sym (found-list_any q ys))

-- sorting atoms and dropping repeats leaves their set
pub set_of-dedup : (xs ys : List Atom) → IsPermutation xs ys → set_of (atoms_view (dedup equals ys)) ≡ set_of (atoms_view xs)
set_of-dedup xs ys moved =
    same_map atom_cmp_total atom_cmp-IsAntisymmetric _ _ (λ q.
    get-from_entries atom_cmp_total (map marked (atoms_view (dedup equals ys))) q
    ∙ (found-dedup q ys ∙ (sym (found-permuted q xs ys moved) ∙ sym (get-from_entries atom_cmp_total (map marked (atoms_view xs)) q))))

-- and what is left ascends
pub dedup-ascends : (ys : List Atom) → IsSorted atom_order ys → T (is_sorted atom_cmp (map marked (atoms_view (dedup equals ys))))
dedup-ascends ys sorted = atoms-ascend (dedup equals ys) (IsStrictlySortedBy-dedup (on_total atom_view atom_cmp_total) (λ x y. refl) ys sorted)
