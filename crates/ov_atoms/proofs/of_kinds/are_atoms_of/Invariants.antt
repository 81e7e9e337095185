use Rattle.std.proofs.Common.{◌≡◌, drop}
use Rattle.std.specs.List.{list_all}
use Rattle.ov_specs.specs.values.Value.{is_atom_of}
use Rattle.ov_atoms.specs.Views.{kind_view, atoms_view}
use Rattle.ov_atoms.proofs.of_kinds.are_atoms_of.Given as goal

abbrev pub invariant-loop-atom : goal.invariant-loop-atom
invariant-loop-atom l = list_all (is_atom_of (kind_view l.kind)) (atoms_view l.atoms) ≡ list_all (is_atom_of (kind_view l.kind)) (atoms_view (drop l.atom-index l.atoms))
