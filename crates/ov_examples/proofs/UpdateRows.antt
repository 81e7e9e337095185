-- Worked calls for monitors, and what is sent of a commit.
use Rattle.std.proofs.Common.{◌≡◌, ℕ, List, [], ◌∷◌, codes, Option, Some, false, refl, sym, ap, ◌∙◌, Ok}
use Rattle.std.specs.Fmt.{digits}
use Rattle.std.specs.FinMap.{empty, entries, from_entries, from_sorted, same_map, entries-from_sorted, get-empty, get-insert, get-from_entries, get-from_sorted}
use Rattle.serde_json.specs.Data.{Data, null, number, unsigned, string, array, object, no_members, member, Items, no_items, item}
use Rattle.serde_json.proofs.OnLiterals.{serde_json_on_literals}
use Rattle.uuid.specs.Text.{by_index}
use Rattle.ov_specs.specs.machine.Machine.{State, Entry, Take, Close, InputEnded, Committed, Exhausted, Failed, Outcome, Stepped, Work, Watches, opening, refused, work_of, step}
use Rattle.ov_specs.specs.monitors.Monitors.{Monitor, added}
use Rattle.ov_specs.specs.monitors.Updates.{updates, update_notification}
use Rattle.ov_specs.specs.operations.Insert.{insert_result}
use Rattle.ov_specs.specs.operations.Transaction.{exhausted_results, failed_results}
use Rattle.ov_specs.specs.rows.Database.{same_database}
use Rattle.ov_specs.specs.rows.Lines.{LineKey, line_cmp}
use Rattle.ov_specs.specs.values.Value.{Text}
use Rattle.ov_specs.specs.wire.Frame.{reply_tree, failure_tree}
use Rattle.ov_specs.specs.wire.Message.{Message, Call}
use Rattle.ov_specs.proofs.laws.LineKeys.{key_total, key_exact}
use Rattle.ov_examples.proofs.InsertRows.{net0, switch_table, name_column, entries-columns, numbered, entries-one, insert_s1, with_s1, s1, name-given, entries-with_s1, entries-nothing, insert_one}

-- ---- states with monitors

-- of this name: the names of switches, at each kind of change
abbrev pub on_name : Data → Monitor
on_name id = record {
  id = id;
  tables = record { table = codes "Switch"; initial = Some (codes "name" ∷ []); insert = Some (codes "name" ∷ []); delete = Some (codes "name" ∷ []); modify = Some (codes "name" ∷ []) } ∷ [];
}

-- sessions 1 and 2 are open, with these monitors, and there are no rows
abbrev watched : List Monitor → List Monitor → State
watched first second = record (opening net0 empty) { sessions = record { serial = 1; monitors = first } ∷ record { serial = 2; monitors = second } ∷ []; next = 3 }

abbrev pub id : ℕ → Data
id n = number (unsigned n)

abbrev pub m : Data
m = string (codes "m")

-- at moment 0, with nothing drawn
abbrev takes : ℕ → Message → Entry
takes n message = record { event = Take n message; choice = record { moment = 0; draws = []; outcomes = [] } }

-- one tree, sent to session 1
abbrev answers : State → Data → Option Stepped
answers s tree = Some (record { state = s; sent = record { session = 1; tree = tree } ∷ [] })

-- ---- a monitor comes

abbrev pub requests : Data
requests = object (member (codes "Switch") (array (item (object (member (codes "columns") (array (item (string (codes "name")) no_items)) no_members)) no_items)) no_members)

abbrev pub monitor : List ℕ → ℕ → Data → Data → Message
monitor database n name asked = Call (id n) (codes "monitor") (item (string database) (item name (item asked no_items)))

asked_for : added net0 [] m requests ≡ Ok (on_name m ∷ [])
unfolding serde_json_on_literals
asked_for = rw switch_table (rw name_column (rw entries-columns refl))

pub monitor_is_answered : step (watched [] []) (takes 1 (monitor (codes "Net") 1 m requests)) ≡ answers (watched (on_name m ∷ []) []) (reply_tree (id 1) (object no_members))
unfolding digits serde_json_on_literals
monitor_is_answered = rw switch_table (rw name_column (rw entries-columns (rw entries-nothing refl)))

-- what it receives at first
pub monitor_tells_at_first : work_of (record (watched [] []) { database = with_s1 }) 1 (monitor (codes "Net") 1 m requests)
    ≡ Watches (id 1) (object (member (codes "Switch") (object (member (codes "00000000-0000-0000-0000-000000000002") (object (member (codes "new") (object (member (codes "name") (string (codes "s1")) no_members)) no_members)) no_members)) no_members)) (on_name m ∷ [])
unfolding digits serde_json_on_literals by_index
monitor_tells_at_first = rw switch_table (rw name_column (rw entries-columns (rw entries-with_s1 (rw name-given (rw (entries-one (Text (codes "s1"))) refl)))))

-- ---- names of monitors

pub monitor_ids : step (watched (on_name m ∷ []) []) (takes 1 (monitor (codes "Net") 6 m requests)) ≡ answers (watched (on_name m ∷ []) []) (failure_tree (id 6) (codes "duplicate monitor id"))
unfolding digits serde_json_on_literals
monitor_ids = refl

-- they are those of a session
pub ids_are_a_sessions_own : work_of (watched (on_name m ∷ []) []) 2 (monitor (codes "Net") 6 m requests) ≡ Watches (id 6) (object no_members) (on_name m ∷ [])
unfolding digits serde_json_on_literals
ids_are_a_sessions_own = rw switch_table (rw name_column (rw entries-columns (rw entries-nothing refl)))

pub null_is_an_id : work_of (watched (on_name m ∷ []) []) 1 (monitor (codes "Net") 6 null requests) ≡ Watches (id 6) (object no_members) (on_name m ∷ on_name null ∷ [])
unfolding digits serde_json_on_literals
null_is_an_id = rw switch_table (rw name_column (rw entries-columns (rw entries-nothing refl)))

abbrev cancel : ℕ → Data → Message
cancel n name = Call (id n) (codes "monitor_cancel") (item name no_items)

pub monitor_is_canceled : step (watched (on_name m ∷ on_name null ∷ []) (on_name m ∷ [])) (takes 1 (cancel 7 m)) ≡ answers (watched (on_name null ∷ []) (on_name m ∷ [])) (reply_tree (id 7) (object no_members))
unfolding digits serde_json_on_literals
monitor_is_canceled = refl

pub canceled_monitor_is_unknown : step (watched [] (on_name m ∷ [])) (takes 1 (cancel 8 m)) ≡ answers (watched [] (on_name m ∷ [])) (failure_tree (id 8) (codes "unknown monitor"))
unfolding digits serde_json_on_literals
canceled_monitor_is_unknown = refl

-- ---- what is refused

abbrev asks : Items → Work
asks params = work_of (watched [] []) 1 (Call (id 1) (codes "monitor") params)

pub monitor_of_two_params : asks (item (string (codes "Net")) (item m no_items)) ≡ refused (id 1) (codes "syntax error")
unfolding digits serde_json_on_literals
monitor_of_two_params = refl

-- requests that are not an object are refused before a database that is unknown, and what is in them after it
pub requests_of_null : asks (item (string (codes "Nat")) (item m (item null no_items))) ≡ refused (id 1) (codes "syntax error")
unfolding digits serde_json_on_literals
requests_of_null = refl

pub unknown_database : asks (item (string (codes "Nat")) (item m (item (object (member (codes "Switch") null no_members)) no_items))) ≡ refused (id 1) (codes "unknown database")
unfolding digits serde_json_on_literals
unknown_database = refl

pub request_of_null : asks (item (string (codes "Net")) (item m (item (object (member (codes "Switch") null no_members)) no_items))) ≡ refused (id 1) (codes "syntax error")
unfolding digits serde_json_on_literals
request_of_null = refl

pub cancel_of_nothing : work_of (watched [] []) 1 (Call (id 1) (codes "monitor_cancel") no_items) ≡ refused (id 1) (codes "syntax error")
unfolding digits serde_json_on_literals
cancel_of_nothing = refl

-- ---- a switch is inserted

abbrev the_key : LineKey
the_key = (codes "Switch", numbered 2)

abbrev its_name : Data
its_name = object (member (codes "Switch") (object (member (codes "00000000-0000-0000-0000-000000000002") (object (member (codes "new") (object (member (codes "name") (string (codes "s1")) no_members)) no_members)) no_members)) no_members)

entries-of_one : entries (from_entries {R = line_cmp} ((the_key, s1) ∷ [])) ≡ (the_key, s1) ∷ []
entries-of_one =
    ap entries (same_map key_total key_exact (from_entries ((the_key, s1) ∷ [])) (from_sorted ((the_key, s1) ∷ [])) (λ q. get-from_entries key_total ((the_key, s1) ∷ []) q ∙ sym (get-from_sorted line_cmp ((the_key, s1) ∷ []) q tt)))
    ∙ entries-from_sorted line_cmp ((the_key, s1) ∷ []) tt

told : (name : Data) → updates empty with_s1 (on_name name) ≡ Some its_name
unfolding serde_json_on_literals by_index
told name =
    rw entries-nothing (rw entries-with_s1 (rw entries-of_one (rw (get-empty line_cmp the_key, get-insert key_total empty the_key s1 the_key)
    (rw name-given (rw (entries-one (Text (codes "s1"))) refl)))))

pub differ : same_database empty with_s1 ≡ false
differ = rw (entries-nothing, entries-with_s1) refl

abbrev inserts : Outcome → Entry
inserts outcome = record {
  event = Take 1 (Call (id 2) (codes "transact") (item (string (codes "Net")) (item insert_s1 no_items)));
  choice = record { moment = 0; draws = numbered 1 ∷ numbered 2 ∷ []; outcomes = record { number = 1; outcome = outcome } ∷ [] };
}

-- the params of an update
abbrev update : Data → Data
update name = update_notification (item name (item its_name no_items))

abbrev reply : Data
reply = reply_tree (id 2) (array (item (insert_result (numbered 2)) no_items))

pub updates_before_reply : step (watched (on_name m ∷ []) []) (inserts Committed)
    ≡ Some (record { state = record (watched (on_name m ∷ []) []) { database = with_s1 }; sent = record { session = 1; tree = update m } ∷ record { session = 1; tree = reply } ∷ [] })
unfolding digits serde_json_on_literals
updates_before_reply = rw insert_one (rw differ (rw (told m) refl))

-- session by session in order of opening, monitor by monitor in order of creation, and the reply after all of them
pub updates_come_in_order : step (watched (on_name m ∷ []) (on_name null ∷ on_name m ∷ [])) (inserts Committed)
    ≡ Some (record {
      state = record (watched (on_name m ∷ []) (on_name null ∷ on_name m ∷ [])) { database = with_s1 };
      sent =
          record { session = 1; tree = update m }
          ∷ record { session = 2; tree = update null }
          ∷ record { session = 2; tree = update m }
          ∷ record { session = 1; tree = reply }
          ∷ [];
    })
unfolding digits serde_json_on_literals
updates_come_in_order = rw insert_one (rw differ (rw (told m) refl))

-- what is not kept is not reported
pub exhausted_is_not_told : step (watched (on_name m ∷ []) (on_name m ∷ [])) (inserts Exhausted)
    ≡ answers (watched (on_name m ∷ []) (on_name m ∷ [])) (reply_tree (id 2) (array (exhausted_results (item (insert_result (numbered 2)) no_items))))
unfolding digits serde_json_on_literals
exhausted_is_not_told = rw insert_one (rw differ refl)

pub failed_is_not_told : step (watched (on_name m ∷ []) (on_name m ∷ [])) (inserts Failed)
    ≡ answers (record (watched (on_name m ∷ []) (on_name m ∷ [])) { sealed = Some with_s1 }) (reply_tree (id 2) (array (failed_results (item (insert_result (numbered 2)) no_items))))
unfolding digits serde_json_on_literals
failed_is_not_told = rw insert_one (rw differ refl)

-- a session goes with its monitors
pub monitors_go_with_their_session : step (watched (on_name m ∷ []) (on_name m ∷ [])) (record { event = Close 1 InputEnded; choice = record { moment = 0; draws = []; outcomes = [] } })
    ≡ Some (record { state = record (watched [] []) { sessions = record { serial = 2; monitors = on_name m ∷ [] } ∷ [] }; sent = [] })
monitors_go_with_their_session = refl
