use Rattle.std.proofs.Common.{◌≡◌, drop}
use Rattle.ov_atoms.specs.Views.{atom_view, atoms_view}
use Rattle.ov_conds.specs.Walks as walks
use Rattle.ov_conds.proofs.walk.atoms_from.Given as goal

abbrev pub invariant-loop-i : goal.invariant-loop-i
invariant-loop-i l = walks.atoms_from (atom_view l.atom) (atoms_view l.atoms) ≡ walks.atoms_from (atom_view l.atom) (atoms_view (drop l.i l.atoms))
