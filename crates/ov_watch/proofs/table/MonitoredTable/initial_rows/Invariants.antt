use Rattle.std.proofs.Common.{◌≡◌}
use Rattle.std.specs.List.{filter_map}
use Rattle.serde_json.specs.Data.{no_members}
use Rattle.ov_specs.specs.rows.Database.{placed}
use Rattle.ov_rows.specs.Nested.{in_table}
use Rattle.ov_watch.specs.Telling.{told_at_first}
use Rattle.ov_watch.proofs.table.MonitoredTable.initial_rows.Given as goal

abbrev pub invariant-loop-id : goal.invariant-loop-id
invariant-loop-id l =
    placed l.told (filter_map (told_at_first l.self) (in_table l.self.table l.id-iterator))
    ≡ placed no_members (filter_map (told_at_first l.self) (in_table l.self.table l.initial.id-iterator))
