-- Worked monitors: what is asked of them, and what they report.
use Rattle.std.proofs.Common.{◌≡◌, ℕ, pos, List, [], ◌∷◌, ◌++◌, Bool, true, false, cond, Option, Some, None, option_map, Result, Ok, Err, refl, sym, ap, ◌∙◌, codes}
use Rattle.std.specs.FinMap.{empty, get, insert, remove, find, entries, from_entries, from_sorted, same_map, entries-from_sorted, get-empty, get-insert, get-remove, get-from_entries, get-from_sorted}
use Rattle.std.specs.Ordering.{eq_by_cmp}
use Rattle.serde_json.specs.Data.{string}
use Rattle.serde_json.specs.Read.{read}
use Rattle.serde_json.proofs.OnLiterals.{serde_json_on_literals}
use Rattle.uuid.specs.Text.{by_index}
use Rattle.ov_specs.specs.monitors.Monitors.{Monitor, added, canceled}
use Rattle.ov_specs.specs.monitors.Requests.{MonitorFault, Syntax, UnknownTable, UnknownColumn, Duplicate, Unknown}
use Rattle.ov_specs.specs.monitors.Updates.{initial, updates, update_params, update_notification}
use Rattle.ov_specs.specs.rows.Database.{Columns, Row, Database}
use Rattle.ov_specs.specs.rows.Lines.{LineKey, line_cmp}
use Rattle.ov_specs.specs.schema.SchemaTypes.{name_cmp}
use Rattle.ov_specs.specs.values.Value.{Integer, Text, Uuid as Id}
use Rattle.ov_specs.proofs.laws.LineKeys.{key_total, key_exact, tied_same}
use Rattle.ov_specs.proofs.laws.Monitoring.{updates-same}
use Rattle.ov_specs.proofs.laws.Names.{name_cmp_total}
use Rattle.ov_examples.proofs.NetRows.{net, numbered, table_is, on_switch, entries-switch}
use Rattle.ov_examples.proofs.TwoSwitches.{entries-one, switch_columns, key, entries-empty, entries-put}

-- ---- what is asked

-- a monitor that is named "m" asked for, by a session that has these
abbrev asked : List Monitor → List ℕ → Option (Result (List Monitor) MonitorFault)
asked monitors text = option_map (added net monitors (string (codes "m"))) (read text)

-- the monitor, of Switch alone, with the columns of each kind
abbrev watching : Option (List (List ℕ)) → Option (List (List ℕ)) → Option (List (List ℕ)) → Option (List (List ℕ)) → Monitor
watching first insert delete modify = record { id = string (codes "m"); tables = record { table = codes "Switch"; initial = first; insert = insert; delete = delete; modify = modify } ∷ [] }

abbrev at_all : List (List ℕ) → Monitor
at_all names = watching (Some names) (Some names) (Some names) (Some names)

abbrev on_name : Monitor
on_name = at_all (codes "name" ∷ [])

pub name_is_asked_for : asked [] (codes "{\"Switch\":[{\"columns\":[\"name\"]}]}") ≡ Some (Ok (on_name ∷ []))
unfolding serde_json_on_literals
name_is_asked_for = rw (table_is (codes "Switch")) (rw (on_switch (codes "name")) (rw entries-switch refl))

pub request_by_itself : asked [] (codes "{\"Switch\":{\"columns\":[\"name\"]}}") ≡ Some (Ok (on_name ∷ []))
unfolding serde_json_on_literals
request_by_itself = rw (table_is (codes "Switch")) (rw (on_switch (codes "name")) (rw entries-switch refl))

-- the columns reported by default are all but `_uuid`, `_version` among them
pub all_is_asked_for : asked [] (codes "{\"Switch\":{}}") ≡ Some (Ok (at_all (codes "_version" ∷ codes "load" ∷ codes "name" ∷ codes "ports" ∷ []) ∷ []))
unfolding serde_json_on_literals
all_is_asked_for = rw (table_is (codes "Switch")) (rw entries-switch refl)

-- two requests that name no column merge
pub all_is_asked_for_twice : asked [] (codes "{\"Switch\":[{\"select\":{\"modify\":false}},{}]}") ≡ asked [] (codes "{\"Switch\":{}}")
unfolding serde_json_on_literals
all_is_asked_for_twice = rw (table_is (codes "Switch")) (rw entries-switch refl)

-- each kind has the columns of the requests that select it
abbrev by_kind : Monitor
by_kind = watching (Some (codes "load" ∷ [])) (Some (codes "name" ∷ [])) (Some (codes "load" ∷ codes "name" ∷ [])) (Some (codes "load" ∷ codes "name" ∷ []))

pub kinds_are_asked_for : asked [] (codes "{\"Switch\":[{\"columns\":[\"name\"],\"select\":{\"initial\":false}},{\"columns\":[\"load\"],\"select\":{\"insert\":false}}]}") ≡ Some (Ok (by_kind ∷ []))
unfolding serde_json_on_literals
kinds_are_asked_for = rw (table_is (codes "Switch")) (rw (on_switch (codes "name"), on_switch (codes "load")) (rw entries-switch refl))

-- a table of no requests, and a kind that no request selects
pub nothing_is_asked_for : asked [] (codes "{\"Switch\":[]}") ≡ Some (Ok (watching None None None None ∷ []))
unfolding serde_json_on_literals
nothing_is_asked_for = rw (table_is (codes "Switch")) refl

pub insert_is_asked_for : asked [] (codes "{\"Switch\":{\"columns\":[],\"select\":{\"initial\":false,\"delete\":false,\"modify\":false}}}") ≡ Some (Ok (watching None (Some []) None None ∷ []))
unfolding serde_json_on_literals
insert_is_asked_for = rw (table_is (codes "Switch")) (rw entries-switch refl)

-- ---- what is refused

-- a column that is named twice, in one request or in two, even if the name of the monitor is in use
pub column_twice : asked (on_name ∷ []) (codes "{\"Switch\":[{\"columns\":[\"name\"]},{\"columns\":[\"load\",\"name\"]}]}") ≡ Some (Err Syntax)
unfolding serde_json_on_literals
column_twice = refl

pub flag_of_a_number : asked [] (codes "{\"Swich\":[],\"Switch\":[{\"select\":{\"insert\":1}}]}") ≡ Some (Err Syntax)
unfolding serde_json_on_literals
flag_of_a_number = refl

pub columns_of_null : asked [] (codes "{\"Switch\":{\"columns\":null}}") ≡ Some (Err Syntax)
unfolding serde_json_on_literals
columns_of_null = refl

pub name_in_use : asked (on_name ∷ []) (codes "{\"Swich\":[]}") ≡ Some (Err Duplicate)
unfolding serde_json_on_literals
name_in_use = refl

pub unknown_table : asked [] (codes "{\"Swich\":[],\"Switch\":[{\"columns\":[\"nam\"]}]}") ≡ Some (Err UnknownTable)
unfolding serde_json_on_literals
unknown_table = rw (table_is (codes "Swich")) refl

pub unknown_column : asked [] (codes "{\"Switch\":[{\"columns\":[\"nam\"]}],\"Twitch\":[]}") ≡ Some (Err UnknownColumn)
unfolding serde_json_on_literals
unknown_column = rw (table_is (codes "Switch")) (rw (on_switch (codes "nam")) refl)

-- ---- what is canceled

pub monitor_goes : canceled (on_name ∷ []) (string (codes "m")) ≡ Ok []
unfolding serde_json_on_literals
monitor_goes = refl

pub unknown_monitor : canceled [] (string (codes "m")) ≡ Err Unknown
unknown_monitor = refl

-- ---- one switch

pub columns_of : ℕ → List ℕ → Columns
columns_of load name = from_entries (switch_columns load name)

column_of : (load : ℕ) (name q : List ℕ) → get (columns_of load name) q ≡ find name_cmp q (switch_columns load name)
unfolding columns_of
column_of load name q = get-from_entries name_cmp_total (switch_columns load name) q

-- of this version, with this load and name
abbrev switch : ℕ → ℕ → List ℕ → Row
switch version load name = record { version = numbered version; columns = columns_of load name }

abbrev alone : Row → Database
alone row = insert empty (key 7) row

found : (row : Row) → get (alone row) (key 7) ≡ Some row
found row = get-insert key_total empty (key 7) row (key 7)

not_found : get (empty {X = Row} {R = line_cmp}) (key 7) ≡ None
not_found = get-empty line_cmp (key 7)

entries-of_one : (k : LineKey) (r : Row) → entries (from_entries {R = line_cmp} ((k, r) ∷ [])) ≡ (k, r) ∷ []
entries-of_one k r =
    ap entries (same_map key_total key_exact (from_entries ((k, r) ∷ [])) (from_sorted ((k, r) ∷ [])) (λ q. get-from_entries key_total ((k, r) ∷ []) q ∙ sym (get-from_sorted line_cmp ((k, r) ∷ []) q tt)))
    ∙ entries-from_sorted line_cmp ((k, r) ∷ []) tt

entries-of_both : (k : LineKey) (r s : Row) → entries (from_entries {R = line_cmp} ((k, r) ∷ (k, s) ∷ [])) ≡ (k, r) ∷ []
entries-of_both k r s =
    ap entries (same_map key_total key_exact (from_entries ((k, r) ∷ (k, s) ∷ [])) (from_sorted ((k, r) ∷ [])) (λ q.
    get-from_entries key_total ((k, r) ∷ (k, s) ∷ []) q ∙ by (eq_by_cmp line_cmp q k) ∙ sym (get-from_sorted line_cmp ((k, r) ∷ []) q tt)))
    ∙ entries-from_sorted line_cmp ((k, r) ∷ []) tt
  where
    by : (b : Bool) → cond b (Some r) (cond b (Some s) None) ≡ cond b (Some r) None
    by true = refl
    by false = refl

-- ---- what is reported

pub initial_is_told : Some (initial (alone (switch 9 0 (codes "s1"))) on_name) ≡ read (codes "{\"Switch\":{\"00000000-0000-0000-0000-000000000007\":{\"new\":{\"name\":\"s1\"}}}}")
unfolding serde_json_on_literals by_index
initial_is_told = rw (entries-put (key 7) (switch 9 0 (codes "s1"))) (rw (column_of 0 (codes "s1") (codes "name")) (rw (entries-one (Text (codes "s1"))) refl))

pub no_rows_at_first : Some (initial empty on_name) ≡ read (codes "{}")
unfolding serde_json_on_literals
no_rows_at_first = rw entries-empty refl

pub insert_is_told : updates empty (alone (switch 9 0 (codes "s1"))) on_name ≡ read (codes "{\"Switch\":{\"00000000-0000-0000-0000-000000000007\":{\"new\":{\"name\":\"s1\"}}}}")
unfolding serde_json_on_literals by_index
insert_is_told =
    rw entries-empty (rw (entries-put (key 7) (switch 9 0 (codes "s1"))) (rw (entries-of_one (key 7) (switch 9 0 (codes "s1"))) (rw (not_found, found (switch 9 0 (codes "s1")))
    (rw (column_of 0 (codes "s1") (codes "name")) (rw (entries-one (Text (codes "s1"))) refl)))))

-- as it is sent
pub insert_is_sent : option_map (λ told. update_notification (update_params on_name told)) (updates empty (alone (switch 9 0 (codes "s1"))) on_name)
    ≡ read (codes "{\"id\":null,\"method\":\"update\",\"params\":[\"m\",{\"Switch\":{\"00000000-0000-0000-0000-000000000007\":{\"new\":{\"name\":\"s1\"}}}}]}")
unfolding serde_json_on_literals by_index
insert_is_sent =
    rw entries-empty (rw (entries-put (key 7) (switch 9 0 (codes "s1"))) (rw (entries-of_one (key 7) (switch 9 0 (codes "s1"))) (rw (not_found, found (switch 9 0 (codes "s1")))
    (rw (column_of 0 (codes "s1") (codes "name")) (rw (entries-one (Text (codes "s1"))) refl)))))

pub delete_is_told : updates (alone (switch 9 0 (codes "s2"))) empty on_name ≡ read (codes "{\"Switch\":{\"00000000-0000-0000-0000-000000000007\":{\"old\":{\"name\":\"s2\"}}}}")
unfolding serde_json_on_literals by_index
delete_is_told =
    rw entries-empty (rw (entries-put (key 7) (switch 9 0 (codes "s2"))) (rw (entries-of_one (key 7) (switch 9 0 (codes "s2"))) (rw (not_found, found (switch 9 0 (codes "s2")))
    (rw (column_of 0 (codes "s2") (codes "name")) (rw (entries-one (Text (codes "s2"))) refl)))))

-- from one row to another at the same key
module _ (before after : Row) where
  keys_of_both : entries (from_entries {R = line_cmp} (entries (alone before) ++ entries (alone after))) ≡ (key 7, before) ∷ []
  keys_of_both = rw (entries-put (key 7) before) (rw (entries-put (key 7) after) (entries-of_both (key 7) before after))

pub modify_is_told : updates (alone (switch 8 0 (codes "s1"))) (alone (switch 9 0 (codes "s2"))) on_name
    ≡ read (codes "{\"Switch\":{\"00000000-0000-0000-0000-000000000007\":{\"new\":{\"name\":\"s2\"},\"old\":{\"name\":\"s1\"}}}}")
unfolding serde_json_on_literals by_index
modify_is_told =
    rw (keys_of_both (switch 8 0 (codes "s1")) (switch 9 0 (codes "s2"))) (rw (found (switch 8 0 (codes "s1")), found (switch 9 0 (codes "s2")))
    (rw (column_of 0 (codes "s1") (codes "name"), column_of 0 (codes "s2") (codes "name")) (rw (entries-one (Text (codes "s1")), entries-one (Text (codes "s2")))
    (rw (column_of 0 (codes "s1") (codes "name"), column_of 0 (codes "s2") (codes "name")) (rw (entries-one (Text (codes "s1")), entries-one (Text (codes "s2"))) refl)))))

-- a modification of a column that is not reported
pub other_column_is_not_told : updates (alone (switch 8 0 (codes "s1"))) (alone (switch 9 5 (codes "s1"))) on_name ≡ None
unfolding serde_json_on_literals
other_column_is_not_told =
    rw (keys_of_both (switch 8 0 (codes "s1")) (switch 9 5 (codes "s1"))) (rw (found (switch 8 0 (codes "s1")), found (switch 9 5 (codes "s1")))
    (rw (column_of 0 (codes "s1") (codes "name"), column_of 5 (codes "s1") (codes "name")) (rw (entries-one (Text (codes "s1"))) refl)))

-- the version is a column, and is modified with each of the others
pub version_is_told : updates (alone (switch 8 0 (codes "s1"))) (alone (switch 9 5 (codes "s1"))) (at_all (codes "_version" ∷ []))
    ≡ read (codes "{\"Switch\":{\"00000000-0000-0000-0000-000000000007\":{\"new\":{\"_version\":[\"uuid\",\"00000000-0000-0000-0000-000000000009\"]},\"old\":{\"_version\":[\"uuid\",\"00000000-0000-0000-0000-000000000008\"]}}}}")
unfolding serde_json_on_literals by_index
version_is_told =
    rw (keys_of_both (switch 8 0 (codes "s1")) (switch 9 5 (codes "s1"))) (rw (found (switch 8 0 (codes "s1")), found (switch 9 5 (codes "s1")))
    (rw (entries-one (Id (numbered 8)), entries-one (Id (numbered 9))) (rw (entries-one (Id (numbered 8)), entries-one (Id (numbered 9))) refl)))

-- ---- by the kinds that are selected

pub load_at_first : Some (initial (alone (switch 9 0 (codes "s1"))) by_kind) ≡ read (codes "{\"Switch\":{\"00000000-0000-0000-0000-000000000007\":{\"new\":{\"load\":0}}}}")
unfolding serde_json_on_literals by_index
load_at_first = rw (entries-put (key 7) (switch 9 0 (codes "s1"))) (rw (column_of 0 (codes "s1") (codes "load")) (rw (entries-one (Integer (pos 0))) refl))

pub name_at_insert : updates empty (alone (switch 9 0 (codes "s2"))) by_kind ≡ read (codes "{\"Switch\":{\"00000000-0000-0000-0000-000000000007\":{\"new\":{\"name\":\"s2\"}}}}")
unfolding serde_json_on_literals by_index
name_at_insert =
    rw entries-empty (rw (entries-put (key 7) (switch 9 0 (codes "s2"))) (rw (entries-of_one (key 7) (switch 9 0 (codes "s2"))) (rw (not_found, found (switch 9 0 (codes "s2")))
    (rw (column_of 0 (codes "s2") (codes "name")) (rw (entries-one (Text (codes "s2"))) refl)))))

-- "new" has all columns, and "old" those that are modified
pub both_at_modify : updates (alone (switch 8 0 (codes "s2"))) (alone (switch 9 5 (codes "s2"))) by_kind
    ≡ read (codes "{\"Switch\":{\"00000000-0000-0000-0000-000000000007\":{\"new\":{\"load\":5,\"name\":\"s2\"},\"old\":{\"load\":0}}}}")
unfolding serde_json_on_literals by_index
both_at_modify =
    rw (keys_of_both (switch 8 0 (codes "s2")) (switch 9 5 (codes "s2"))) (rw (found (switch 8 0 (codes "s2")), found (switch 9 5 (codes "s2")))
    (rw (column_of 0 (codes "s2") (codes "name"), column_of 5 (codes "s2") (codes "name"), column_of 0 (codes "s2") (codes "load"), column_of 5 (codes "s2") (codes "load"))
    (rw (entries-one (Integer (pos 0)), entries-one (Integer (pos 5)), entries-one (Text (codes "s2")))
    (rw (column_of 5 (codes "s2") (codes "name"), column_of 0 (codes "s2") (codes "load"), column_of 5 (codes "s2") (codes "load"))
    (rw (entries-one (Integer (pos 0)), entries-one (Integer (pos 5)), entries-one (Text (codes "s2"))) refl)))))

-- a kind that no request selects
pub unselected_is_not_told : updates empty (alone (switch 9 0 (codes "s1"))) (watching (Some []) None (Some []) (Some [])) ≡ None
unselected_is_not_told =
    rw entries-empty (rw (entries-put (key 7) (switch 9 0 (codes "s1"))) (rw (entries-of_one (key 7) (switch 9 0 (codes "s1"))) (rw (not_found, found (switch 9 0 (codes "s1"))) refl)))

-- ---- no columns: that a row is there is reported all the same

abbrev on_nothing : Monitor
on_nothing = at_all []

pub no_columns_at_first : Some (initial (alone (switch 9 0 (codes "s1"))) on_nothing) ≡ read (codes "{\"Switch\":{\"00000000-0000-0000-0000-000000000007\":{\"new\":{}}}}")
unfolding serde_json_on_literals by_index
no_columns_at_first = rw (entries-put (key 7) (switch 9 0 (codes "s1"))) refl

pub no_columns_at_insert : updates empty (alone (switch 9 0 (codes "s1"))) on_nothing ≡ read (codes "{\"Switch\":{\"00000000-0000-0000-0000-000000000007\":{\"new\":{}}}}")
unfolding serde_json_on_literals by_index
no_columns_at_insert =
    rw entries-empty (rw (entries-put (key 7) (switch 9 0 (codes "s1"))) (rw (entries-of_one (key 7) (switch 9 0 (codes "s1"))) (rw (not_found, found (switch 9 0 (codes "s1"))) refl)))

pub no_columns_at_delete : updates (alone (switch 9 0 (codes "s1"))) empty on_nothing ≡ read (codes "{\"Switch\":{\"00000000-0000-0000-0000-000000000007\":{\"old\":{}}}}")
unfolding serde_json_on_literals by_index
no_columns_at_delete =
    rw entries-empty (rw (entries-put (key 7) (switch 9 0 (codes "s1"))) (rw (entries-of_one (key 7) (switch 9 0 (codes "s1"))) (rw (not_found, found (switch 9 0 (codes "s1"))) refl)))

pub no_columns_at_modify : updates (alone (switch 8 0 (codes "s1"))) (alone (switch 9 5 (codes "s2"))) on_nothing ≡ None
no_columns_at_modify = rw (keys_of_both (switch 8 0 (codes "s1")) (switch 9 5 (codes "s2"))) (rw (found (switch 8 0 (codes "s1")), found (switch 9 5 (codes "s2"))) refl)

-- ---- what is undone within one transaction

pub unchanged_is_not_told : (database : Database) (m : Monitor) → updates database database m ≡ None
unchanged_is_not_told = updates-same

remove-insert : (database : Database) (k : LineKey) (row : Row) → get database k ≡ None → remove (insert database k row) k ≡ database
remove-insert database k row absent = same_map key_total key_exact (remove (insert database k row) k) database (λ q.
    get-remove key_total (insert database k row) k q
    ∙ ap (cond (eq_by_cmp line_cmp q k) None) (get-insert key_total database k row q)
    ∙ by q (eq_by_cmp line_cmp q k) refl)
  where
    by : (q : LineKey) (b : Bool) → eq_by_cmp line_cmp q k ≡ b → cond b None (cond b (Some row) (get database q)) ≡ get database q
    by q true t = sym (ap (get database) (tied_same q k t) ∙ absent)
    by q false t = refl

-- a row that comes and goes
pub inserted_and_deleted : (database : Database) (k : LineKey) (row : Row) (m : Monitor) → get database k ≡ None → updates database (remove (insert database k row) k) m ≡ None
inserted_and_deleted database k row m absent = ap (λ after. updates database after m) (remove-insert database k row absent) ∙ updates-same database m
