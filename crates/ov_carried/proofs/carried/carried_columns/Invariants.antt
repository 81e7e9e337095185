use Rattle.std.proofs.Common.{◌≡◌, drop, map}
use Rattle.ov_specs.specs.operations.GivenRow.{with_values}
use Rattle.ov_specs.specs.conversion.Carried.{carried_value}
use Rattle.ov_specs.specs.rows.RowNames.{without_own_columns}
use Rattle.ov_carried.proofs.carried.carried_columns.Given as goal

abbrev pub invariant-loop-name : goal.invariant-loop-name
invariant-loop-name l =
    with_values (map (λ c. (c.0, carried_value l.old l.columns c)) (without_own_columns l.name-items)) l.initial.named
    ≡ with_values (map (λ c. (c.0, carried_value l.old l.columns c)) (without_own_columns (drop l.name-index l.name-items))) l.named
