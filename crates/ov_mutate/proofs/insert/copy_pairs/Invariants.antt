use Rattle.std.proofs.Common.{◌≡◌, take}
use Rattle.ov_atoms.specs.Views.{pairs_view}
use Rattle.ov_mutate.proofs.insert.copy_pairs.Given as goal

abbrev pub invariant-loop-pair : goal.invariant-loop-pair
invariant-loop-pair l = pairs_view l.copies.items ≡ pairs_view (take l.pair-index l.pairs)
