-- Lists of atoms and of pairs, and their trees.
use Rattle.std.proofs.Common.{◌≡◌, ℕ, ◌≤◌, List, [], ◌∷◌, map, take, length, refl, sym, ap, ◌∙◌, codes}
use Rattle.std.proofs.lemmas.List.{take_all, length-map}
use Rattle.serde_json.specs.Data.{Data, string, array}
use Rattle.serde_json.specs.View.{items_of}
use Rattle.ov_specs.specs.values.Value as value
use Rattle.ov_specs.specs.values.Writing.{two, atom_tree, pair_tree, set_tree, map_tree}
use Rattle.ov_atoms.specs.declared.atom.Atom.{Atom}
use Rattle.ov_atoms.specs.Views.{atoms_view, pairs_view}

set_tree-listed : (xs : List value.Atom) → (length xs ≡ 1 → ⊥) → two (string (codes "set")) (array (items_of (map atom_tree xs))) ≡ set_tree xs
set_tree-listed [] other = refl
set_tree-listed (a ∷ []) other = absurd (other refl)
set_tree-listed (a ∷ b ∷ xs) other = refl

pub set_tree-made : (trees : List Data) (xs : List Atom) (n : ℕ) → (length xs ≡ 1 → ⊥) → length xs ≤ n → trees ≡ map atom_tree (atoms_view (take n xs))
    → two (string (codes "set")) (array (items_of trees)) ≡ set_tree (atoms_view xs)
set_tree-made trees xs n other all made =
    let whole : trees ≡ map atom_tree (atoms_view xs) = made ∙ ap (λ ys. map atom_tree (atoms_view ys)) (take_all n xs all) in
    rw whole (set_tree-listed (atoms_view xs) (λ e. other (sym (length-map xs _) ∙ e)))

pub map_tree-made : (trees : List Data) (xs : List (Atom × Atom)) (n : ℕ) → length xs ≤ n → trees ≡ map pair_tree (pairs_view (take n xs))
    → two (string (codes "map")) (array (items_of trees)) ≡ map_tree (pairs_view xs)
map_tree-made trees xs n all made =
    let whole : trees ≡ map pair_tree (pairs_view xs) = made ∙ ap (λ ys. map pair_tree (pairs_view ys)) (take_all n xs all) in
    rw whole refl
