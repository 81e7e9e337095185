use Rattle.std.proofs.Common.{◌≡◌, ◌++◌, take}
use Rattle.ov_atoms.specs.Views.{atoms_view}
use Rattle.ov_mutate.proofs.insert.push_atoms.Given as goal

abbrev pub invariant-loop-atom : goal.invariant-loop-atom
invariant-loop-atom l = atoms_view l.list.items ≡ atoms_view l.initial.list.items ++ atoms_view (take l.atom-index l.atoms)
