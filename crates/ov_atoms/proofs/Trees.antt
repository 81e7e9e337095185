-- The tree of a value, from the ascending atoms or pairs that the code keeps.
use Rattle.std.proofs.Common.{◌≡◌, List, length, Some, sym, ap, subst, ◌∙◌, Vec, Global}
use Rattle.std.proofs.lemmas.List.{length-map}
use Rattle.std.specs.FinMap.{keys, entries, len-entries}
use Rattle.std.specs.List.{list_all}
use Rattle.ov_specs.specs.values.Value as value
use Rattle.ov_specs.specs.values.Writing.{set_tree, map_tree, tree}
use Rattle.ov_specs.proofs.laws.ReadingBack.{keys-set_of, entries-from_entries}
use Rattle.ov_atoms.specs.declared.atom.Atom.{Atom}
use Rattle.ov_atoms.specs.declared.datum.SortedElements.{SortedElements}
use Rattle.ov_atoms.specs.declared.datum.SortedElements.TheVariants.{Atoms, Pairs}
use Rattle.ov_atoms.specs.Views.{pairs_view}
use Rattle.ov_atoms.specs.Sorted.{sorted_view, IsAscending}

pub atoms_in-atoms : (p : SortedElements) (atoms : List value.Atom) (d : value.Datum) → p ≡ Atoms atoms → IsAscending p → sorted_view p ≡ d → Some atoms ≡ value.atoms_in d
atoms_in-atoms p atoms d is ascending seen =
    ap Some (sym (keys-set_of atoms (subst IsAscending is ascending))) ∙ ap value.atoms_in (ap sorted_view (sym is) ∙ seen)

pub pairs_in-pairs : (p : SortedElements) (pairs : Vec (Atom × Atom) Global) (d : value.Datum) → p ≡ Pairs pairs → IsAscending p → sorted_view p ≡ d → Some (pairs_view pairs.items) ≡ value.pairs_in d
pairs_in-pairs p pairs d is ascending seen =
    ap Some (sym (entries-from_entries (pairs_view pairs.items) (subst IsAscending is ascending))) ∙ ap value.pairs_in (ap sorted_view (sym is) ∙ seen)

pub set_tree-atoms : (p : SortedElements) (atoms : List value.Atom) (d : value.Datum) → p ≡ Atoms atoms → IsAscending p → sorted_view p ≡ d → set_tree atoms ≡ tree d
set_tree-atoms p atoms d is ascending seen =
    sym (ap set_tree (keys-set_of atoms (subst IsAscending is ascending))) ∙ ap tree (ap sorted_view (sym is) ∙ seen)

pub map_tree-pairs : (p : SortedElements) (pairs : Vec (Atom × Atom) Global) (d : value.Datum) → p ≡ Pairs pairs → IsAscending p → sorted_view p ≡ d → map_tree (pairs_view pairs.items) ≡ tree d
map_tree-pairs p pairs d is ascending seen =
    sym (ap map_tree (entries-from_entries (pairs_view pairs.items) (subst IsAscending is ascending))) ∙ ap tree (ap sorted_view (sym is) ∙ seen)

pub count-atoms : (p : SortedElements) (atoms : List value.Atom) (d : value.Datum) → p ≡ Atoms atoms → IsAscending p → sorted_view p ≡ d → length atoms ≡ value.count d
count-atoms p atoms d is ascending seen =
    let kept = keys-set_of atoms (subst IsAscending is ascending) in
    let own : length atoms ≡ length (keys (value.set_of atoms)) = ap length (sym kept) in
    own ∙ (length-map (entries (value.set_of atoms)) _ ∙ (sym (len-entries (value.set_of atoms)) ∙ ap value.count (ap sorted_view (sym is) ∙ seen)))

pub count-pairs : (p : SortedElements) (pairs : Vec (Atom × Atom) Global) (d : value.Datum) → p ≡ Pairs pairs → IsAscending p → sorted_view p ≡ d → length pairs.items ≡ value.count d
count-pairs p pairs d is ascending seen =
    let ps = pairs_view pairs.items in
    let kept = entries-from_entries ps (subst IsAscending is ascending) in
    sym (length-map pairs.items _) ∙ (ap length (sym kept) ∙ (sym (len-entries (value.map_of ps)) ∙ ap value.count (ap sorted_view (sym is) ∙ seen)))

pub is_of-atoms : (kind : value.AtomKind) (p : SortedElements) (atoms : List value.Atom) (d : value.Datum) → p ≡ Atoms atoms → IsAscending p → sorted_view p ≡ d
    → list_all (value.is_atom_of kind) atoms ≡ value.is_of (value.Single kind) d
is_of-atoms kind p atoms d is ascending seen =
    ap (list_all (value.is_atom_of kind)) (sym (keys-set_of atoms (subst IsAscending is ascending))) ∙ ap (value.is_of (value.Single kind)) (ap sorted_view (sym is) ∙ seen)

pub is_of-pairs : (key val : value.AtomKind) (p : SortedElements) (pairs : Vec (Atom × Atom) Global) (d : value.Datum) → p ≡ Pairs pairs → IsAscending p → sorted_view p ≡ d
    → list_all (value.is_pair_of key val) (pairs_view pairs.items) ≡ value.is_of (value.Pair key val) d
is_of-pairs key val p pairs d is ascending seen =
    ap (list_all (value.is_pair_of key val)) (sym (entries-from_entries (pairs_view pairs.items) (subst IsAscending is ascending))) ∙ ap (value.is_of (value.Pair key val)) (ap sorted_view (sym is) ∙ seen)
