use Rattle.std.proofs.Common.{◌≡◌, drop}
use Rattle.ov_atoms.specs.Views.{atoms_view}
use Rattle.ov_conds.specs.Walks.{includes_atoms}
use Rattle.ov_conds.proofs.walk.includes_atoms.Given as goal

abbrev pub invariant-loop-atom : goal.invariant-loop-atom
invariant-loop-atom l = includes_atoms (atoms_view l.column) (atoms_view l.value) ≡ includes_atoms (atoms_view l.rest) (atoms_view (drop l.atom-index l.value))
