use Rattle.std.proofs.Common.{◌≡◌, ◌+◌, ◌≤◌, ◌^◌, ◌-◌}
use Rattle.std.specs.List.{flat_map}
use Rattle.std.specs.FinMap.{get}
use Rattle.ov_specs.specs.integrity.References.{column_targets}
use Rattle.ov_rows.proofs.Names.{paired}
use Rattle.ov_refs.specs.Counting.{hits}
use Rattle.ov_specs.specs.values.Capped.{capped_to_64_bits}
use Rattle.ov_refs.proofs.counting.count_columns.Given as goal

abbrev pub invariant-loop-name : goal.invariant-loop-name
invariant-loop-name l = record {
  small : l.count ≤ 2 ^ 64 - 1;
  counted : capped_to_64_bits (l.count + hits l.to (flat_map (λ c. column_targets (get l.table.columns c.0) c.1) (paired l.name-iterator.a.rest.now l.name-iterator.b)))
      ≡ capped_to_64_bits (hits l.to (flat_map (λ c. column_targets (get l.table.columns c.0) c.1) (paired l.initial.name-iterator.a.rest.now l.initial.name-iterator.b)));
}
