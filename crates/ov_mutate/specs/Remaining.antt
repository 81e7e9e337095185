-- Two ascending lists, walked side by side: what remains of one without the other, and what is new to it.
use Rattle.std.specs.Prelude.{List, [], ◌∷◌, if◌then◌else◌}
use Rattle.ov_conds.specs.Walks.{atoms_from, pairs_from, is_first}
use Rattle.ov_specs.specs.rows.Database.{same_atom, same_pair}
use Rattle.ov_specs.specs.values.Value.{Atom}

-- the atoms of the second list that are not in the first
abbrev pub remaining_atoms : List Atom → List Atom → List Atom
remaining_atoms rest [] = []
remaining_atoms rest (a ∷ atoms) =
    if is_first (λ b. same_atom b a) (atoms_from a rest) then remaining_atoms (atoms_from a rest) atoms
    else a ∷ remaining_atoms (atoms_from a rest) atoms

-- the pairs of the second list that are not in the first
abbrev pub remaining_pairs : List (Atom × Atom) → List (Atom × Atom) → List (Atom × Atom)
remaining_pairs rest [] = []
remaining_pairs rest (p ∷ pairs) =
    if is_first (λ q. same_pair q p) (pairs_from p.0 rest) then remaining_pairs (pairs_from p.0 rest) pairs
    else p ∷ remaining_pairs (pairs_from p.0 rest) pairs

-- the pairs of the second list whose keys are not in the first
abbrev pub pairs_without_keys : List Atom → List (Atom × Atom) → List (Atom × Atom)
pairs_without_keys rest [] = []
pairs_without_keys rest (p ∷ pairs) =
    if is_first (λ a. same_atom a p.0) (atoms_from p.0 rest) then pairs_without_keys (atoms_from p.0 rest) pairs
    else p ∷ pairs_without_keys (atoms_from p.0 rest) pairs

-- the pairs of the second list whose keys the first does not have
abbrev pub at_new_keys : List (Atom × Atom) → List (Atom × Atom) → List (Atom × Atom)
at_new_keys rest [] = []
at_new_keys rest (p ∷ pairs) =
    if is_first (λ q. same_atom q.0 p.0) (pairs_from p.0 rest) then at_new_keys (pairs_from p.0 rest) pairs
    else p ∷ at_new_keys (pairs_from p.0 rest) pairs
