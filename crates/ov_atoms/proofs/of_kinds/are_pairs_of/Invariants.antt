use Rattle.std.proofs.Common.{◌≡◌, drop}
use Rattle.std.specs.List.{list_all}
use Rattle.ov_specs.specs.values.Value.{is_pair_of}
use Rattle.ov_atoms.specs.Views.{kind_view, pairs_view}
use Rattle.ov_atoms.proofs.of_kinds.are_pairs_of.Given as goal

abbrev pub invariant-loop-pair : goal.invariant-loop-pair
invariant-loop-pair l = list_all (is_pair_of (kind_view l.key) (kind_view l.value)) (pairs_view l.pairs) ≡ list_all (is_pair_of (kind_view l.key) (kind_view l.value)) (pairs_view (drop l.pair-index l.pairs))
