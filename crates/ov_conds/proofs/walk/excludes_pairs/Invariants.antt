use Rattle.std.proofs.Common.{◌≡◌, drop}
use Rattle.ov_atoms.specs.Views.{pairs_view}
use Rattle.ov_conds.specs.Walks.{excludes_pairs}
use Rattle.ov_conds.proofs.walk.excludes_pairs.Given as goal

abbrev pub invariant-loop-pair : goal.invariant-loop-pair
invariant-loop-pair l = excludes_pairs (pairs_view l.column) (pairs_view l.value) ≡ excludes_pairs (pairs_view l.rest) (pairs_view (drop l.pair-index l.value))
