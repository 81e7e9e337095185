use Rattle.std.proofs.Common.{◌≡◌, drop}
use Rattle.std.specs.List.{filter_map}
use Rattle.serde_json.specs.Data.{no_members}
use Rattle.ov_stored.specs.Changing.{applied}
use Rattle.ov_specs.specs.monitors.Updates as spec
use Rattle.ov_specs.specs.rows.Database.{placed}
use Rattle.ov_watch.proofs.monitor.Monitor.updated_tables.Given as goal

abbrev pub invariant-loop-table : goal.invariant-loop-table
invariant-loop-table l =
    placed no_members (filter_map (λ t. spec.under_table t.table (spec.updated_rows l.rows (applied l.delta l.rows) t)) l.table-items)
    ≡ placed l.told (filter_map (λ t. spec.under_table t.table (spec.updated_rows l.rows (applied l.delta l.rows) t)) (drop l.table-index l.table-items))
