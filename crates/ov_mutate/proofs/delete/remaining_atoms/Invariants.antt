use Rattle.std.proofs.Common.{◌≡◌, ◌++◌, drop}
use Rattle.ov_atoms.specs.Views.{atoms_view}
use Rattle.ov_mutate.specs.Remaining as left
use Rattle.ov_mutate.proofs.delete.remaining_atoms.Given as goal

abbrev pub invariant-loop-atom : goal.invariant-loop-atom
invariant-loop-atom l = left.remaining_atoms (atoms_view l.gone) (atoms_view l.atoms) ≡ atoms_view l.left.items ++ left.remaining_atoms (atoms_view l.rest) (atoms_view (drop l.atom-index l.atoms))
