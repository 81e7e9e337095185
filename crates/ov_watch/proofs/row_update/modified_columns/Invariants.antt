use Rattle.std.proofs.Common.{◌≡◌, ◌++◌, ℕ, List, drop, filter}
use Rattle.ov_specs.specs.monitors.Updates as spec
use Rattle.ov_watch.proofs.row_update.modified_columns.Given as goal

abbrev pub invariant-loop-name : goal.invariant-loop-name
invariant-loop-name l = (table : List ℕ) (id : List ℕ) →
    filter (spec.is_modified ((table, id), l.before) ((table, id), l.after)) l.names
    ≡ l.modified.items ++ filter (spec.is_modified ((table, id), l.before) ((table, id), l.after)) (drop l.name-index l.names)
