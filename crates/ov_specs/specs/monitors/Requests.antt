-- What is asked of a monitor: which columns of which tables it reports, and at which kinds of change (RFC 7047, 4.1.5).
use Rattle.std.specs.Prelude.{ℕ, not, List, [], ◌∷◌, filter, Bool, true, if◌then◌else◌, Option, Some, None, option_map, option_and_then, unwrap_or, codes, Result, Ok, Err}
use Rattle.std.specs.List.{flat_map, list_all, list_any}
use Rattle.std.specs.FinMap.{get, contains_key, keys}
use Rattle.std.specs.Str.{bytes_eq}
use Rattle.serde_json.specs.Data.{Data, Items}
use Rattle.serde_json.specs.Find as find
use Rattle.serde_json.specs.Find.{as_str, as_bool, as_array, as_object}
use Rattle.ov_specs.specs.schema.Schema.{has_twice}
use Rattle.ov_specs.specs.schema.SchemaShape.{named_parts}
use Rattle.ov_specs.specs.schema.SchemaTypes.{Table, Schema}
use Rattle.ov_specs.specs.values.Reading.{each_read, list_read}
use Rattle.ov_specs.specs.values.Results.{each_or_fault}

-- ---- requests

-- which kinds of change are reported (RFC 7047, 4.1.5, <monitor-select>)
pub record MonitorSelect : Type 0 where
  pub initial : Bool
  pub insert : Bool
  pub delete : Bool
  pub modify : Bool

-- one request for a table: the columns that it names, or all but `_uuid`, and when they are reported (RFC 7047, 4.1.5,
-- <monitor-request>)
pub record MonitorRequest : Type 0 where
  pub columns : Option (List (List ℕ))
  pub select : MonitorSelect

-- the requests for a table, under its name (RFC 7047, 4.1.5, <monitor-requests>)
abbrev pub TableRequests : Type 0
TableRequests = List ℕ × List MonitorRequest

-- why a monitor is refused, or can't be canceled
pub data MonitorFault : Type 0 where
  Syntax : MonitorFault
  UnknownTable : MonitorFault
  UnknownColumn : MonitorFault
  Duplicate : MonitorFault
  Unknown : MonitorFault
  Limit : MonitorFault

-- the text that the client receives
abbrev pub monitor_fault_text : MonitorFault → List ℕ
monitor_fault_text Syntax = codes "syntax error"
monitor_fault_text UnknownTable = codes "unknown table"
monitor_fault_text UnknownColumn = codes "unknown column"
monitor_fault_text Duplicate = codes "duplicate monitor id"
monitor_fault_text Unknown = codes "unknown monitor"
monitor_fault_text Limit = codes "resources exhausted"

-- ---- reading them

-- true if it is absent, else a truth value (RFC 7047, 4.1.5, <monitor-select>)
abbrev pub flag_read : Option Data → Option Bool
flag_read None = Some true
flag_read (Some d) = as_bool d

-- goes on with the flag of this name, if it reads
abbrev pub on_flag : {A : Type 0} → List ℕ → Data → (Bool → Option A) → Option A
on_flag name d next = option_and_then next (flag_read (find.get name d))

-- the four flags (RFC 7047, 4.1.5, <monitor-select>)
abbrev pub flags_read : Data → Option MonitorSelect
flags_read d =
    on_flag (codes "initial") d (λ initial. on_flag (codes "insert") d (λ insert.
    on_flag (codes "delete") d (λ delete. on_flag (codes "modify") d (λ modify.
    Some (record { initial = initial; insert = insert; delete = delete; modify = modify })))))

-- "select": an object of flags, which may be left out (RFC 7047, 4.1.5, <monitor-request>)
abbrev pub select_read : Option Data → Option MonitorSelect
select_read None = Some (record { initial = true; insert = true; delete = true; modify = true })
select_read (Some d) = option_and_then (λ members. flags_read d) (as_object d)

-- "columns": an array of texts, which may be left out (RFC 7047, 4.1.5, <monitor-request>)
abbrev pub columns_read : Option Data → Option (Option (List (List ℕ)))
columns_read None = Some None
columns_read (Some d) = option_map Some (list_read as_str d)

-- the request with these columns
abbrev pub with_columns : Option (List (List ℕ)) → Option MonitorSelect → Option MonitorRequest
with_columns columns select = option_map (λ s. record { columns = columns; select = s }) select

-- an object of "columns" and "select" (RFC 7047, 4.1.5, <monitor-request>)
abbrev pub request_read : Data → Option MonitorRequest
request_read d = option_and_then (λ members.
    option_and_then (λ columns. with_columns columns (select_read (find.get (codes "select") d)))
    (columns_read (find.get (codes "columns") d)))
    (as_object d)

-- each request of an array, or the one that stands by itself (RFC 7047, 4.1.5, <monitor-requests>; that it may is this
-- server's choice)
abbrev pub one_or_each : Option Items → Data → Option (List MonitorRequest)
one_or_each None d = option_map (λ r. r ∷ []) (request_read d)
one_or_each (Some items) d = each_read request_read items

-- the columns that the requests name
abbrev pub requested_columns : List MonitorRequest → List (List ℕ)
requested_columns requests = flat_map (λ r. unwrap_or r.columns []) requests

-- the requests, if they name no column twice
abbrev pub naming_once : List MonitorRequest → Option (List MonitorRequest)
naming_once requests = if has_twice (requested_columns requests) then None else Some requests

-- the requests for a table (RFC 7047, 4.1.5, <monitor-requests>)
abbrev pub table_requests_read : Data → Option (List MonitorRequest)
table_requests_read d = option_and_then naming_once (one_or_each (as_array d) d)

-- The requests of a monitor: an object of those for each table, in ascending order of the tables' names (RFC 7047, 4.1.5,
-- <monitor-requests>).
abbrev pub requests_read : Data → Option (List TableRequests)
requests_read d = named_parts table_requests_read d

-- ---- what they come to

-- What is reported of a table: at each kind of change the columns, in ascending order, or None if it is not reported at all.
pub record MonitoredTable : Type 0 where
  pub table : List ℕ
  pub initial : Option (List (List ℕ))
  pub insert : Option (List (List ℕ))
  pub delete : Option (List (List ℕ))
  pub modify : Option (List (List ℕ))

-- the column is one of these, or any but `_uuid` (RFC 7047, 4.1.5, <monitor-request>; that `_version` is among them is this
-- server's choice)
abbrev pub is_one_of : Option (List (List ℕ)) → List ℕ → Bool
is_one_of None name = not (bytes_eq name (codes "_uuid"))
is_one_of (Some names) name = list_any (bytes_eq name) names

-- the columns of the table that one of the requests is about, or None if there is no request
abbrev pub monitored_columns : Table → List MonitorRequest → Option (List (List ℕ))
monitored_columns table [] = None
monitored_columns table (r ∷ requests) =
    Some (filter (λ name. list_any (λ request. is_one_of request.columns name) (r ∷ requests)) (keys table.columns))

-- at each kind of change the columns are those of the requests that select it (RFC 7047, 4.1.5, <monitor-select>)
abbrev pub monitored : Table → TableRequests → MonitoredTable
monitored table t = record {
  table = t.0;
  initial = monitored_columns table (filter (λ r. r.select.initial) t.1);
  insert = monitored_columns table (filter (λ r. r.select.insert) t.1);
  delete = monitored_columns table (filter (λ r. r.select.delete) t.1);
  modify = monitored_columns table (filter (λ r. r.select.modify) t.1);
}

-- The table is one of the schema's, and has the columns that are named.
abbrev pub monitored_table : Option Table → TableRequests → Result MonitoredTable MonitorFault
monitored_table None t = Err UnknownTable
monitored_table (Some table) t =
    if list_all (contains_key table.columns) (requested_columns t.1) then Ok (monitored table t) else Err UnknownColumn

-- the tables in ascending order, each checked wholly before the next one
abbrev pub monitored_tables : Schema → List TableRequests → Result (List MonitoredTable) MonitorFault
monitored_tables schema requests = each_or_fault (λ t. monitored_table (get schema.tables t.0) t) requests
