use Rattle.std.proofs.Common.{◌≡◌, ◌++◌, drop}
use Rattle.std.specs.List.{flat_map}
use Rattle.ov_atoms.specs.Views.{atoms_view}
use Rattle.ov_refs.specs.Targets.{one_target}
use Rattle.ov_refs.proofs.targets.push_atoms.Given as goal

abbrev pub invariant-loop-atom : goal.invariant-loop-atom
invariant-loop-atom l =
    l.targets.items ++ flat_map (one_target l.refers) (atoms_view (drop l.atom-index l.atoms))
    ≡ l.fn.targets.items ++ flat_map (one_target l.refers) (atoms_view (l.atoms))
