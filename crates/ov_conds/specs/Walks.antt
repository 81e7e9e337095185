-- Two ascending lists, walked side by side: what of one is in the other.
use Rattle.std.specs.Prelude.{◌&&◌, not, List, [], ◌∷◌, Bool, true, false, if◌then◌else◌}
use Rattle.std.specs.Ordering.{is_lt}
use Rattle.ov_specs.specs.rows.Database.{same_atom, same_pair}
use Rattle.ov_specs.specs.values.Value.{Atom, atom_cmp}

-- the list from the first element whose key is not below this one
abbrev pub from_key : {A : Type 0} → (A → Atom) → Atom → List A → List A
from_key key k [] = []
from_key key k (x ∷ xs) = if is_lt (atom_cmp (key x) k) then from_key key k xs else x ∷ xs

-- the atoms that are not less than this one, where they ascend
abbrev pub atoms_from : Atom → List Atom → List Atom
atoms_from = from_key (λ a. a)

-- the pairs whose keys are not less than this one, where they ascend
abbrev pub pairs_from : Atom → List (Atom × Atom) → List (Atom × Atom)
pairs_from = from_key (λ p. p.0)

-- the first element of the list passes the test
abbrev pub is_first : {A : Type 0} → (A → Bool) → List A → Bool
is_first test [] = false
is_first test (x ∷ xs) = test x

-- each atom of the second list is in the first
abbrev pub includes_atoms : List Atom → List Atom → Bool
includes_atoms rest [] = true
includes_atoms rest (a ∷ atoms) = is_first (λ b. same_atom b a) (atoms_from a rest) && includes_atoms (atoms_from a rest) atoms

-- each pair of the second list is in the first
abbrev pub includes_pairs : List (Atom × Atom) → List (Atom × Atom) → Bool
includes_pairs rest [] = true
includes_pairs rest (p ∷ pairs) =
    is_first (λ q. same_pair q p) (pairs_from p.0 rest) && includes_pairs (pairs_from p.0 rest) pairs

-- no atom of the second list is in the first
abbrev pub excludes_atoms : List Atom → List Atom → Bool
excludes_atoms rest [] = true
excludes_atoms rest (a ∷ atoms) =
    not (is_first (λ b. same_atom b a) (atoms_from a rest)) && excludes_atoms (atoms_from a rest) atoms

-- no pair of the second list is in the first
abbrev pub excludes_pairs : List (Atom × Atom) → List (Atom × Atom) → Bool
excludes_pairs rest [] = true
excludes_pairs rest (p ∷ pairs) =
    not (is_first (λ q. same_pair q p) (pairs_from p.0 rest)) && excludes_pairs (pairs_from p.0 rest) pairs
