use Rattle.std.proofs.Common.{◌≡◌, drop}
use Rattle.std.specs.FinMap.{get}
use Rattle.std.specs.List.{list_any}
use Rattle.ov_specs.specs.integrity.Limits.{has_too_many}
use Rattle.ov_specs.specs.schema.Schema.{is_some_and}
use Rattle.ov_index.proofs.limits.is_any_too_many.Given as goal

abbrev pub invariant-loop-name : goal.invariant-loop-name
invariant-loop-name l =
    list_any (λ t. is_some_and (λ table. has_too_many l.rows (t.0, table)) (get l.schema.tables t.0)) l.tables
    ≡ list_any (λ t. is_some_and (λ table. has_too_many l.rows (t.0, table)) (get l.schema.tables t.0)) (drop l.name-index l.tables)
