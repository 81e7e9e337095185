-- The order of values, from the ascending lists that the code keeps.
use Rattle.std.proofs.Common.{◌≡◌, List, [], ◌∷◌, map, refl, sym, ap, subst, ◌∙◌, Ordering, Less, Greater, Vec, Global}
use Rattle.std.specs.Ordering.{ordering_then}
use Rattle.std.specs.Cmp.Lexicographic.{slice_cmp}
use Rattle.ov_specs.specs.values.Value as value
use Rattle.ov_specs.specs.values.Value.{atom_cmp, pair_cmp, datum_cmp}
use Rattle.ov_specs.proofs.laws.ReadingBack.{keys-set_of, entries-from_entries}
use Rattle.ov_atoms.proofs.Building.{atom_order}
use Rattle.ov_atoms.specs.declared.atom.Atom.{Atom}
use Rattle.ov_atoms.specs.declared.datum.SortedElements.{SortedElements}
use Rattle.ov_atoms.specs.declared.datum.SortedElements.TheVariants.{Atoms, Pairs}
use Rattle.ov_atoms.specs.Views.{atom_view, pair_view, atoms_view, pairs_view}
use Rattle.ov_atoms.specs.Sorted.{sorted_view, IsAscending}

-- the order of pairs in the code
abbrev pub pair_order : Atom × Atom → Atom × Atom → Ordering
pair_order p q = ordering_then (atom_order p.0 q.0) (atom_order p.1 q.1)

-- lists seen element by element are ordered as they are
slice_cmp-map : {A B : Type 0} (R : B → B → Ordering) (f : A → B) (S : A → A → Ordering) → ((a b : A) → S a b ≡ R (f a) (f b)) → (xs ys : List A) → slice_cmp S xs ys ≡ slice_cmp R (map f xs) (map f ys)
slice_cmp-map R f S same [] [] = refl
slice_cmp-map R f S same [] (y ∷ ys) = refl
slice_cmp-map R f S same (x ∷ xs) [] = refl
slice_cmp-map R f S same (x ∷ xs) (y ∷ ys) = rw (same x y, slice_cmp-map R f S same xs ys) refl

pub cmp-atoms : (p q : SortedElements) (xs ys : List value.Atom) (d e : value.Datum) → p ≡ Atoms xs → q ≡ Atoms ys → IsAscending p → IsAscending q → sorted_view p ≡ d → sorted_view q ≡ e
    → (left right : List (Atom)) → atoms_view left ≡ xs → atoms_view right ≡ ys → slice_cmp atom_order left right ≡ datum_cmp d e
cmp-atoms p q xs ys d e is is' up up' seen seen' left right all all' =
    let own-left = keys-set_of xs (subst IsAscending is up) in
    let own-right = keys-set_of ys (subst IsAscending is' up') in
    let own : datum_cmp (value.Atoms (value.set_of xs)) (value.Atoms (value.set_of ys)) ≡ slice_cmp atom_cmp xs ys = rw (own-left, own-right) refl in
    slice_cmp-map atom_cmp atom_view atom_order (λ a b. refl) left right ∙ ((λ i. slice_cmp atom_cmp (all i) (all' i)) ∙ (sym own ∙ λ i. datum_cmp ((ap sorted_view (sym is) ∙ seen) i) ((ap sorted_view (sym is') ∙ seen') i)))

pub cmp-pairs : (p q : SortedElements) (xs ys : Vec (Atom × Atom) Global) (d e : value.Datum) → p ≡ Pairs xs → q ≡ Pairs ys → IsAscending p → IsAscending q → sorted_view p ≡ d → sorted_view q ≡ e
    → (left right : List (Atom × Atom)) → left ≡ xs.items → right ≡ ys.items → slice_cmp pair_order left right ≡ datum_cmp d e
cmp-pairs p q xs ys d e is is' up up' seen seen' left right all all' =
    let own-left = entries-from_entries (pairs_view xs.items) (subst IsAscending is up) in
    let own-right = entries-from_entries (pairs_view ys.items) (subst IsAscending is' up') in
    let own : datum_cmp (value.Pairs (value.map_of (pairs_view xs.items))) (value.Pairs (value.map_of (pairs_view ys.items))) ≡ slice_cmp pair_cmp (pairs_view xs.items) (pairs_view ys.items) = rw (own-left, own-right) refl in
    (λ i. slice_cmp pair_order (all i) (all' i)) ∙ (slice_cmp-map pair_cmp pair_view pair_order (λ a b. refl) xs.items ys.items ∙ (sym own ∙ λ i. datum_cmp ((ap sorted_view (sym is) ∙ seen) i) ((ap sorted_view (sym is') ∙ seen') i)))

pub cmp-apart : (p q : SortedElements) (xs : List value.Atom) (ys : Vec (Atom × Atom) Global) (d e : value.Datum) → p ≡ Atoms xs → q ≡ Pairs ys → sorted_view p ≡ d → sorted_view q ≡ e → (datum_cmp d e ≡ Less) × (datum_cmp e d ≡ Greater)
cmp-apart p q xs ys d e is is' seen seen' =
    let left : value.Atoms (value.set_of xs) ≡ d = ap sorted_view (sym is) ∙ seen in
    let right : value.Pairs (value.map_of (pairs_view ys.items)) ≡ e = ap sorted_view (sym is') ∙ seen' in
    (rw (← left, ← right) refl, rw (← left, ← right) refl)
