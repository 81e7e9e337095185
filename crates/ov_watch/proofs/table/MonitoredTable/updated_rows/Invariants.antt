use Rattle.std.proofs.Common.{◌≡◌}
use Rattle.std.specs.List.{filter_map}
use Rattle.serde_json.specs.Data.{no_members}
use Rattle.ov_specs.specs.rows.Database.{placed}
use Rattle.ov_watch.specs.Telling.{told_change}
use Rattle.ov_watch.proofs.table.MonitoredTable.updated_rows.Given as goal

abbrev pub invariant-loop-key : goal.invariant-loop-key
invariant-loop-key l =
    placed l.told (filter_map (told_change l.rows l.self) l.key-iterator) ≡ placed no_members (filter_map (told_change l.rows l.self) l.initial.key-iterator)
