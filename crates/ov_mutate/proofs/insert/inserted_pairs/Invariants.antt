use Rattle.std.proofs.Common.{◌≡◌, ◌++◌, drop}
use Rattle.ov_atoms.specs.Views.{pairs_view}
use Rattle.ov_mutate.specs.Remaining.{at_new_keys}
use Rattle.ov_mutate.proofs.insert.inserted_pairs.Given as goal

abbrev pub invariant-loop-pair : goal.invariant-loop-pair
invariant-loop-pair l =
    pairs_view l.column ++ at_new_keys (pairs_view l.column) (pairs_view l.elements)
    ≡ pairs_view l.pairs.items ++ at_new_keys (pairs_view l.rest) (pairs_view (drop l.pair-index l.elements))
