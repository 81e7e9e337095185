use Rattle.std.proofs.Common.{◌≡◌, ◌+◌, ◌≤◌, ◌^◌, ◌-◌, drop}
use Rattle.std.specs.List.{flat_map}
use Rattle.ov_atoms.specs.Views.{atoms_view}
use Rattle.ov_refs.specs.Counting.{hits}
use Rattle.ov_specs.specs.values.Capped.{capped_to_64_bits}
use Rattle.ov_refs.specs.Targets.{one_target}
use Rattle.ov_refs.proofs.counting.count_atoms.Given as goal

abbrev pub invariant-loop-atom : goal.invariant-loop-atom
invariant-loop-atom l = record {
  small : l.count ≤ 2 ^ 64 - 1;
  counted : capped_to_64_bits (l.count + hits l.to (flat_map (one_target l.refers) (atoms_view (drop l.atom-index l.atoms))))
      ≡ capped_to_64_bits (hits l.to (flat_map (one_target l.refers) (atoms_view l.atoms)));
}
