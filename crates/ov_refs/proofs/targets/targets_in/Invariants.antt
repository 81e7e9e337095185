use Rattle.std.proofs.Common.{◌≡◌, ◌++◌}
use Rattle.std.specs.List.{flat_map}
use Rattle.std.specs.FinMap.{get}
use Rattle.ov_specs.specs.integrity.References.{column_targets}
use Rattle.ov_rows.proofs.Names.{paired}
use Rattle.ov_refs.proofs.targets.targets_in.Given as goal

abbrev pub invariant-loop-name : goal.invariant-loop-name
invariant-loop-name l =
    l.targets.items ++ flat_map (λ c. column_targets (get l.table.columns c.0) c.1) (paired l.name-iterator.a.rest.now l.name-iterator.b)
    ≡ l.initial.targets.items ++ flat_map (λ c. column_targets (get l.table.columns c.0) c.1) (paired l.initial.name-iterator.a.rest.now l.initial.name-iterator.b)
