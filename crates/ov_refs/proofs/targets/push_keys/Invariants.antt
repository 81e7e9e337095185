use Rattle.std.proofs.Common.{◌≡◌, ◌++◌, drop, map}
use Rattle.std.specs.List.{flat_map}
use Rattle.ov_atoms.specs.Views.{pairs_view}
use Rattle.ov_refs.specs.Targets.{one_target}
use Rattle.ov_refs.proofs.targets.push_keys.Given as goal

abbrev pub invariant-loop-pair : goal.invariant-loop-pair
invariant-loop-pair l =
    l.targets.items ++ flat_map (one_target l.refers) (map (λ p. p.0) (pairs_view (drop l.pair-index l.pairs)))
    ≡ l.fn.targets.items ++ flat_map (one_target l.refers) (map (λ p. p.0) (pairs_view (l.pairs)))
