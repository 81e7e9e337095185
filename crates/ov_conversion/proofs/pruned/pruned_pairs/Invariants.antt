use Rattle.std.proofs.Common.{◌≡◌, ◌++◌, drop, filter}
use Rattle.ov_atoms.specs.Views.{pairs_view}
use Rattle.ov_specs.specs.integrity.Committed.{pair_stays}
use Rattle.ov_conversion.proofs.pruned.pruned_pairs.Given as goal

abbrev pub invariant-loop-pair : goal.invariant-loop-pair
invariant-loop-pair l =
    filter (pair_stays l.rows l.column.type_of) (pairs_view l.pairs)
    ≡ pairs_view l.left.items ++ filter (pair_stays l.rows l.column.type_of) (pairs_view (drop l.pair-index l.pairs))
