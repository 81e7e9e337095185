use Rattle.std.proofs.Common.{◌≡◌, ◌+◌, ◌≤◌, ◌^◌, ◌-◌, drop, map}
use Rattle.std.specs.List.{flat_map}
use Rattle.ov_atoms.specs.Views.{pairs_view}
use Rattle.ov_refs.specs.Counting.{hits}
use Rattle.ov_specs.specs.values.Capped.{capped_to_64_bits}
use Rattle.ov_refs.specs.Targets.{one_target}
use Rattle.ov_refs.proofs.counting.count_values.Given as goal

abbrev pub invariant-loop-pair : goal.invariant-loop-pair
invariant-loop-pair l = record {
  small : l.count ≤ 2 ^ 64 - 1;
  counted : capped_to_64_bits (l.count + hits l.to (flat_map (one_target l.refers) (map (λ p. p.1) (pairs_view (drop l.pair-index l.pairs)))))
      ≡ capped_to_64_bits (hits l.to (flat_map (one_target l.refers) (map (λ p. p.1) (pairs_view l.pairs))));
}
