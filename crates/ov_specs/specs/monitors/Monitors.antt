-- The monitors of a session: how one is added, and how it is canceled (RFC 7047, 4.1.5 and 4.1.7).
use Rattle.std.specs.Prelude.{ℕ, nat_le, not, List, [], ◌∷◌, ◌++◌, length, filter, Bool, if◌then◌else◌, Option, Some, None, Result, Ok, Err}
use Rattle.std.specs.List.{list_any}
use Rattle.std.specs.Str.{bytes_eq}
use Rattle.serde_json.specs.Data.{Data}
use Rattle.ov_specs.specs.monitors.Requests.{MonitorFault, Syntax, Duplicate, Unknown, Limit, TableRequests, MonitoredTable, requests_read, monitored_tables}
use Rattle.ov_specs.specs.schema.SchemaTypes.{Schema}
use Rattle.ov_specs.specs.values.Results.{result_map}
use Rattle.ov_specs.specs.wire.Frame.{frame}

-- a monitor: the JSON value that names it, and what it reports of which tables, in ascending order of their names (RFC 7047,
-- 4.1.5)
pub record Monitor : Type 0 where
  pub id : Data
  pub tables : List MonitoredTable

-- how many monitors a session may have
abbrev pub max_monitors : ℕ
max_monitors = 64

-- the monitor is named by this value: two values are the same if they are sent as the same text
abbrev pub is_named : Data → Monitor → Bool
is_named id m = bytes_eq (frame m.id) (frame id)

-- ---- one more

-- the monitors with one more after them, in order of creation, or the fault
abbrev pub with_monitor : List Monitor → Data → Result (List MonitoredTable) MonitorFault → Result (List Monitor) MonitorFault
with_monitor monitors id tables = result_map (λ checked. monitors ++ record { id = id; tables = checked } ∷ []) tables

-- A monitor of these requests, if they read: its name is new, the session has fewer monitors than it may, and all tables and
-- columns are known.
abbrev pub added_of : Schema → List Monitor → Data → Option (List TableRequests) → Result (List Monitor) MonitorFault
added_of schema monitors id None = Err Syntax
added_of schema monitors id (Some requests) =
    if list_any (is_named id) monitors then Err Duplicate
    else (if nat_le max_monitors (length monitors) then Err Limit
    else with_monitor monitors id (monitored_tables schema requests))

-- The monitors of a session with one more, or why it is refused; requests that don't read are refused before all else (RFC
-- 7047, 4.1.5; the order is this server's).
abbrev pub added : Schema → List Monitor → Data → Data → Result (List Monitor) MonitorFault
added schema monitors id requests = added_of schema monitors id (requests_read requests)

-- ---- one less

-- the monitors of a session without the one of this name, or that there is none (RFC 7047, 4.1.7)
abbrev pub canceled : List Monitor → Data → Result (List Monitor) MonitorFault
canceled monitors id = if list_any (is_named id) monitors then Ok (filter (λ m. not (is_named id m)) monitors) else Err Unknown
