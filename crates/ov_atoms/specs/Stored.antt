-- How a list of atoms is stored.
use Rattle.std.specs.Prelude.{List, [], ◌∷◌}
use Rattle.ov_specs.specs.values.Value as value
use Rattle.ov_atoms.specs.declared.atom_list.StoredAtoms.{StoredAtoms}
use Rattle.ov_atoms.specs.declared.atom_list.StoredAtoms.TheVariants.{One, Many}
use Rattle.ov_atoms.specs.Views.{atom_view, atoms_view}

-- the atoms, wherever they are stored
abbrev pub atoms_stored : StoredAtoms → List value.Atom
atoms_stored (One atom) = atom_view atom ∷ []
atoms_stored (Many atoms) = atoms_view atoms.items
