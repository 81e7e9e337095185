-- What a monitor reports: the rows at first, and then what changes in them (RFC 7047, 4.1.5 and 4.1.6).
use Rattle.std.specs.Prelude.{ℕ, not, List, [], ◌∷◌, ◌++◌, filter, Bool, Option, Some, None, option_map, option_and_then, unwrap_or, codes}
use Rattle.std.specs.List.{find, filter_map}
use Rattle.std.specs.FinMap.{get, keys, entries, from_entries}
use Rattle.std.specs.Str.{bytes_eq}
use Rattle.serde_json.specs.Data.{Data, null, object, Items, no_items, item, no_members, member}
use Rattle.uuid.specs.Text.{hyphenated_text, lower}
use Rattle.ov_specs.specs.integrity.Limits.{is_same_value, rows_of}
use Rattle.ov_specs.specs.monitors.Monitors.{Monitor, is_named}
use Rattle.ov_specs.specs.monitors.Requests.{MonitoredTable}
use Rattle.ov_specs.specs.operations.Conditions.{entry_value}
use Rattle.ov_specs.specs.operations.Select.{projection, written_row}
use Rattle.ov_specs.specs.rows.Database.{Row, Database, object_of}
use Rattle.ov_specs.specs.rows.Lines.{LineKey, line_cmp}
use Rattle.ov_specs.specs.wire.Frame.{notification_tree}

-- ---- a row

-- these columns of a row (RFC 7047, 5.1, <row>)
abbrev pub shown : List (List ℕ) → LineKey × Row → Data
shown names r = written_row (projection names r)

-- a row that is there at first, or is new: only these columns of it (RFC 7047, 4.1.6, <row-update>)
abbrev pub with_new : List (List ℕ) → LineKey × Row → Data
with_new names r = object (member (codes "new") (shown names r) no_members)

-- a row that is gone: these columns, as they were (RFC 7047, 4.1.6, <row-update>)
abbrev pub with_old : List (List ℕ) → LineKey × Row → Data
with_old names r = object (member (codes "old") (shown names r) no_members)

-- the row had another value in the column before
abbrev pub is_modified : LineKey × Row → LineKey × Row → List ℕ → Bool
is_modified before after name = not (is_same_value (entry_value before name) (entry_value after name))

-- A row that is there before and after, of whose columns some are modified: "old" has the former values of these, and "new"
-- has all of its columns. It is reported only if one of them is modified (RFC 7047, 4.1.6, <row-update>).
abbrev pub with_both : List (List ℕ) → List (List ℕ) → LineKey × Row → LineKey × Row → Option Data
with_both names [] before after = None
with_both names (name ∷ modified) before after =
    Some (object (member (codes "new") (shown names after) (member (codes "old") (shown (name ∷ modified) before) no_members)))

-- the same, by the columns that are reported
abbrev pub modification : List (List ℕ) → LineKey × Row → LineKey × Row → Option Data
modification names before after = with_both names (filter (is_modified before after) names) before after

-- what is reported of a row of the table, by what stands at its key before and after (RFC 7047, 4.1.6, <row-update>)
abbrev pub row_update : MonitoredTable → LineKey → Option Row → Option Row → Option Data
row_update t key None None = None
row_update t key None (Some after) = option_map (λ names. with_new names (key, after)) t.insert
row_update t key (Some before) None = option_map (λ names. with_old names (key, before)) t.delete
row_update t key (Some before) (Some after) = option_and_then (λ names. modification names (key, before) (key, after)) t.modify

-- ---- a table

-- under the identifier of the row (RFC 7047, 4.1.6, <table-update>)
abbrev pub under_id : LineKey → Option Data → Option (List ℕ × Data)
under_id key update = option_map (λ d. (hyphenated_text lower key.1, d)) update

-- its rows at first (RFC 7047, 4.1.5)
abbrev pub initial_rows : Database → MonitoredTable → List (List ℕ × Data)
initial_rows database t =
    filter_map (λ r. under_id r.0 (option_map (λ names. with_new names r) t.initial)) (rows_of t.table database)

-- the keys of all rows that are there before or after, in ascending order
abbrev pub all_keys : Database → Database → List LineKey
all_keys before after = keys (from_entries {R = line_cmp} (entries before ++ entries after))

-- those of the rows of the table of this name
abbrev pub keys_of : List ℕ → Database → Database → List LineKey
keys_of name before after = filter (λ key. bytes_eq key.0 name) (all_keys before after)

-- its rows that are reported (RFC 7047, 4.1.6, <table-update>)
abbrev pub updated_rows : Database → Database → MonitoredTable → List (List ℕ × Data)
updated_rows before after t =
    filter_map (λ key. under_id key (row_update t key (get before key) (get after key))) (keys_of t.table before after)

-- ---- all tables

-- a table with its rows; one without a row is left out (RFC 7047, 4.1.6, <table-updates>)
abbrev pub under_table : List ℕ → List (List ℕ × Data) → Option (List ℕ × Data)
under_table name [] = None
under_table name (row ∷ rows) = Some (name, object_of (row ∷ rows))

-- the tables of the monitor that have rows (RFC 7047, 4.1.6, <table-updates>)
abbrev pub table_updates : (MonitoredTable → List (List ℕ × Data)) → Monitor → List (List ℕ × Data)
table_updates rows m = filter_map (λ t. under_table t.table (rows t)) m.tables

-- what the monitor reports at first: the result of "monitor" (RFC 7047, 4.1.5)
abbrev pub initial : Database → Monitor → Data
initial database m = object_of (table_updates (initial_rows database) m)

-- what the monitor of this name reports at first; there is one
abbrev pub initial_of : Database → Data → List Monitor → Data
initial_of database id monitors = unwrap_or (option_map (initial database) (find (is_named id) monitors)) null

-- nothing is sent if nothing is reported
abbrev pub unless_nothing : List (List ℕ × Data) → Option Data
unless_nothing [] = None
unless_nothing (table ∷ tables) = Some (object_of (table ∷ tables))

-- what the monitor reports of a change of the database (RFC 7047, 4.1.6)
abbrev pub updates : Database → Database → Monitor → Option Data
updates before after m = unless_nothing (table_updates (updated_rows before after) m)

-- ---- what is sent

-- the params of "update": the name of the monitor, and what it reports (RFC 7047, 4.1.6)
abbrev pub update_params : Monitor → Data → Items
update_params m told = item m.id (item told no_items)

-- the params for each of the monitors that reports a change, in order of creation
abbrev pub all_updates : Database → Database → List Monitor → List Items
all_updates before after monitors = filter_map (λ m. option_map (update_params m) (updates before after m)) monitors

-- the notification of a change (RFC 7047, 4.1.6)
abbrev pub update_notification : Items → Data
update_notification params = notification_tree (codes "update") params
