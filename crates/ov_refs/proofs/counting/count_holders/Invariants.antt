use Rattle.std.proofs.Common.{◌≡◌, ◌+◌, ◌≤◌, ◌^◌, ◌-◌}
use Rattle.std.specs.FinMap.{keys}
use Rattle.std.specs.List.{sum_by}
use Rattle.ov_refs.specs.Counting.{hits_beside}
use Rattle.ov_specs.specs.values.Capped.{capped_to_64_bits}
use Rattle.ov_refs.proofs.counting.count_holders.Given as goal

abbrev pub invariant-loop-from : goal.invariant-loop-from
invariant-loop-from l = record {
  small : l.count ≤ 2 ^ 64 - 1;
  counted : capped_to_64_bits (l.count + sum_by (hits_beside l.schema l.rows l.to) l.from-iterator)
      ≡ capped_to_64_bits (sum_by (hits_beside l.schema l.rows l.to) (keys l.holders));
}
