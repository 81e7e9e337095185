use Rattle.std.proofs.Common.{◌≡◌, ◌++◌, drop}
use Rattle.ov_atoms.specs.Views.{pairs_view}
use Rattle.ov_mutate.specs.Remaining as left
use Rattle.ov_mutate.proofs.delete.remaining_pairs.Given as goal

abbrev pub invariant-loop-pair : goal.invariant-loop-pair
invariant-loop-pair l = left.remaining_pairs (pairs_view l.gone) (pairs_view l.pairs) ≡ pairs_view l.left.items ++ left.remaining_pairs (pairs_view l.rest) (pairs_view (drop l.pair-index l.pairs))
