use Rattle.std.proofs.Common.{◌≡◌, ◌++◌, drop, filter}
use Rattle.ov_atoms.specs.Views.{atoms_view}
use Rattle.ov_specs.specs.integrity.Committed.{stays}
use Rattle.ov_conversion.proofs.pruned.pruned_atoms.Given as goal

abbrev pub invariant-loop-atom : goal.invariant-loop-atom
invariant-loop-atom l =
    filter (stays l.rows l.column.type_of.key) (atoms_view l.atoms)
    ≡ atoms_view l.left.items ++ filter (stays l.rows l.column.type_of.key) (atoms_view (drop l.atom-index l.atoms))
