use Rattle.std.proofs.Common.{◌≡◌, ◌++◌, drop, map}
use Rattle.std.specs.List.{flat_map}
use Rattle.ov_rows.specs.Lending.{lent_row}
use Rattle.ov_stage.specs.Staging.{row_made}
use Rattle.ov_stage.proofs.merge.push_changes.Given as goal

abbrev pub invariant-loop-change : goal.invariant-loop-change
invariant-loop-change l =
    map lent_row l.merged.items ++ flat_map row_made (map (λ c. (c.0.now, c.1.now)) (drop l.change-index l.changes))
    ≡ map lent_row l.fn.merged.items ++ flat_map row_made (map (λ c. (c.0.now, c.1.now)) l.changes)
