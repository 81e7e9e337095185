-- Sets and maps of atoms that are made from a list, one insertion after another.
use Rattle.std.proofs.Common.{◌≡◌, List, [], ◌∷◌, ◌++◌, map, Bool, true, false, cond, Option, Some, refl, sym, ap, ◌∙◌, Less, Equal, Greater}
use Rattle.std.specs.Ordering.{eq_by_cmp, match_ordering}
use Rattle.std.specs.FinMap.{find, same_map, get-from_entries}
use Rattle.std.specs.BTreeSet.{insert_key}
use Rattle.ov_specs.specs.values.Value.{Atom, atom_cmp, marked, set_of}
use Rattle.ov_specs.proofs.laws.Order.{atom_cmp_total, atom_cmp-IsAntisymmetric}
use Rattle.ov_specs.proofs.laws.Truths.{cond-twice}

abbrev pub same : Atom → Atom → Bool
same = eq_by_cmp atom_cmp

abbrev pub found : Atom → List Atom → Option (Unit {0})
found q xs = find atom_cmp q (map marked xs)

in_turn : {A : Type 0} (b c : Bool) (x y : A) → cond b x (cond c x y) ≡ cond c x (cond b x y)
in_turn true true x y = refl
in_turn true false x y = refl
in_turn false c x y = refl

-- an atom in the middle of a list counts as one in front
found-middle : (q a : Atom) (xs ys : List Atom) → found q (xs ++ a ∷ ys) ≡ cond (same q a) (Some tt) (found q (xs ++ ys))
found-middle q a [] ys = refl
found-middle q a (x ∷ xs) ys = ap (cond (same q x) (Some tt)) (found-middle q a xs ys) ∙ in_turn (same q x) (same q a) (Some tt) _

found-insert_key : (q a : Atom) (xs ys : List Atom) → found q (insert_key atom_cmp xs a ++ ys) ≡ cond (same q a) (Some tt) (found q (xs ++ ys))
found-insert_key q a [] ys = refl
found-insert_key q a (x ∷ xs) ys =
    elim (atom_cmp a x) as (λ o. atom_cmp a x ≡ o → found q (match_ordering o (a ∷ x ∷ xs) (x ∷ xs) (x ∷ insert_key atom_cmp xs a) ++ ys) ≡ cond (same q a) (Some tt) (found q (x ∷ xs ++ ys))) [
      | Less ↦ λ e. refl
      | Equal ↦ λ e. rw (atom_cmp-IsAntisymmetric a x e) (cond-twice (same q x) (Some tt) _)
      | Greater ↦ λ e. ap (cond (same q x) (Some tt)) (found-insert_key q a xs ys) ∙ in_turn (same q x) (same q a) (Some tt) _
    ] refl

same_sets : (xs ys : List Atom) → ((q : Atom) → found q xs ≡ found q ys) → set_of xs ≡ set_of ys
same_sets xs ys same = same_map atom_cmp_total atom_cmp-IsAntisymmetric (set_of xs) (set_of ys) (λ q. get-from_entries atom_cmp_total (map marked xs) q ∙ (same q ∙ sym (get-from_entries atom_cmp_total (map marked ys) q)))

pub set_of-insert_key : (a : Atom) (xs ys : List Atom) → set_of (xs ++ a ∷ ys) ≡ set_of (insert_key atom_cmp xs a ++ ys)
set_of-insert_key a xs ys = same_sets _ _ (λ q. found-middle q a xs ys ∙ sym (found-insert_key q a xs ys))
