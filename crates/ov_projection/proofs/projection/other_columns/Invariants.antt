use Rattle.std.proofs.Common.{◌≡◌, ◌++◌, drop, filter, map, not}
use Rattle.ov_specs.specs.rows.RowNames.{is_own_column}
use Rattle.ov_projection.proofs.projection.other_columns.Given as goal

abbrev pub invariant-loop-name : goal.invariant-loop-name
invariant-loop-name l =
    filter (λ name. not (is_own_column name)) (map (λ c. c.0) l.name-items)
    ≡ l.names.items ++ filter (λ name. not (is_own_column name)) (map (λ c. c.0) (drop l.name-index l.name-items))
