use Rattle.std.proofs.Common.{◌≡◌, ◌++◌, drop}
use Rattle.ov_atoms.specs.Views.{atoms_view, pairs_view}
use Rattle.ov_mutate.specs.Remaining as left
use Rattle.ov_mutate.proofs.delete.pairs_without_keys.Given as goal

abbrev pub invariant-loop-pair : goal.invariant-loop-pair
invariant-loop-pair l = left.pairs_without_keys (atoms_view l.gone) (pairs_view l.pairs) ≡ pairs_view l.left.items ++ left.pairs_without_keys (atoms_view l.rest) (pairs_view (drop l.pair-index l.pairs))
