use Rattle.std.proofs.Common.{◌≡◌, drop}
use Rattle.ov_atoms.specs.Views.{pairs_view}
use Rattle.ov_conds.specs.Walks.{includes_pairs}
use Rattle.ov_conds.proofs.walk.includes_pairs.Given as goal

abbrev pub invariant-loop-pair : goal.invariant-loop-pair
invariant-loop-pair l = includes_pairs (pairs_view l.column) (pairs_view l.value) ≡ includes_pairs (pairs_view l.rest) (pairs_view (drop l.pair-index l.value))
