-- What is reported of a row in a table, or in the changes of a commit. For private clauses.
use Rattle.std.specs.Prelude.{ℕ, List, if◌then◌else◌, Option, None, option_map}
use Rattle.std.specs.FinMap.{get}
use Rattle.std.specs.Str.{bytes_eq}
use Rattle.serde_json.specs.Data.{Data}
use Rattle.ov_specs.specs.monitors.Requests.{MonitoredTable}
use Rattle.ov_specs.specs.monitors.Updates.{with_new, row_update, under_id}
use Rattle.ov_specs.specs.rows.Database.{Row, Database}
use Rattle.ov_specs.specs.rows.Lines.{LineKey}

-- a row of the initial contents
abbrev pub told_at_first : MonitoredTable → LineKey × Row → Option (List ℕ × Data)
told_at_first t r = under_id r.0 (option_map (λ names. with_new names r) t.initial)

-- a change of a key, if it is in the table: the row before, and the row after
abbrev pub told_change : Database → MonitoredTable → LineKey × Option Row → Option (List ℕ × Data)
told_change before t change =
    if bytes_eq change.0.0 t.table then under_id change.0 (row_update t change.0 (get before change.0) change.1) else None
