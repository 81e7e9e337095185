use Rattle.std.proofs.Common.{◌≡◌, drop}
use Rattle.ov_atoms.specs.Views.{atoms_view}
use Rattle.ov_specs.proofs.laws.Results.{after_these}
use Rattle.ov_mutate.specs.Computing.{each_computed}
use Rattle.ov_mutate.specs.Views.{operator_view}
use Rattle.ov_mutate.proofs.arithmetic.each_computed.Given as goal

abbrev pub invariant-loop-atom : goal.invariant-loop-atom
invariant-loop-atom l =
    each_computed (operator_view l.operator) l.by (atoms_view l.atoms)
    ≡ after_these (atoms_view l.results.items) (each_computed (operator_view l.operator) l.by (atoms_view (drop l.atom-index l.atoms)))
