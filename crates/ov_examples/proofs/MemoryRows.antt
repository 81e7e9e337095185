-- Worked runs in which an allocation fails: one session at most pays for it, and nothing that was answered is lost.
use Rattle.std.proofs.Common.{◌≡◌, ℕ, List, [], ◌∷◌, true, Option, Some, None, option_map, codes, refl}
use Rattle.std.specs.Str.{is_utf8, chars}
use Rattle.std.specs.Fmt.{digits}
use Rattle.std.specs.FinMap.{empty}
use Rattle.serde_json.specs.Data.{Data, string, array, object, no_members, member, no_items, item}
use Rattle.serde_json.proofs.OnLiterals.{serde_json_on_literals}
use Rattle.uuid.specs.Text.{by_index}
use Rattle.ov_specs.specs.machine.History.{run, out, closed_by}
use Rattle.ov_specs.specs.machine.Machine.{Event, Open, Take, Cause, Memory, Committed, NoMemory, Attempt, Entry, Stepped, opening}
use Rattle.ov_specs.specs.operations.Transaction.{Waits, transaction}
use Rattle.ov_specs.specs.values.Uuid.{Uuid}
use Rattle.ov_specs.specs.values.Value.{Text}
use Rattle.ov_specs.specs.wire.Message.{Call}
use Rattle.ov_examples.proofs.ConditionRows.{len-one}
use Rattle.ov_examples.proofs.InsertRows.{net0, numbered, insert_s1, insert_one, with_s1, switch_table, name_column, entries-columns, entries-nothing}
use Rattle.ov_examples.proofs.NetRows.{owns_none}
use Rattle.ov_examples.proofs.UpdateRows.{differ, id, m, monitor, on_name, requests}

-- ---- two sessions, and what a run sends

-- at moment 0, with these draws and outcomes
abbrev entry : Event → List Uuid → List Attempt → Entry
entry event draws outcomes = record { event = event; choice = record { moment = 0; draws = draws; outcomes = outcomes } }

-- a transaction of the session, with id 1
abbrev transacts : ℕ → Data → Event
transacts n operation = Take n (Call (id 1) (codes "transact") (item (string (codes "Net")) (item operation no_items)))

-- sessions 1 and 2 open, and then these
abbrev history : List Entry → List Entry
history entries = entry Open [] [] ∷ entry Open [] [] ∷ entries

-- what they lead to, over no rows
abbrev runs : List Entry → Option Stepped
runs entries = run (opening net0 empty) (history entries)

-- why a session is closed
abbrev closed_in : ℕ → List Entry → Option Cause
closed_in n entries = closed_by (opening net0 empty) (history entries) n

-- what a session is sent
abbrev sent_to : ℕ → List Entry → Option (List ℕ)
sent_to n entries = option_map (λ t. out n t.sent) (runs entries)

-- ---- an allocation fails while the update of another session's monitor is made

-- session 1 has a monitor of names, and session 2 inserts s1
abbrev unreported : List Entry
unreported =
    entry (Take 1 (monitor (codes "Net") 1 m requests)) [] []
    ∷ entry (transacts 2 insert_s1) (numbered 1 ∷ numbered 2 ∷ []) (record { number = 1; outcome = NoMemory } ∷ [])
    ∷ []

-- session 1 goes on with its monitor, session 2 is closed, and no row is there
pub closed_for_an_update : option_map (λ t. t.state) (runs unreported)
    ≡ Some (record (opening net0 empty) { sessions = record { serial = 1; monitors = on_name m ∷ [] } ∷ []; next = 3 })
unfolding digits serde_json_on_literals
closed_for_an_update = rw switch_table (rw name_column (rw entries-columns refl))

-- what session 1 is sent is the reply to its call
pub no_update_is_sent : sent_to 1 unreported ≡ Some (codes "{\"error\":null,\"id\":1,\"result\":{}}")
unfolding digits serde_json_on_literals
no_update_is_sent = rw switch_table (rw name_column (rw entries-nothing refl))

pub no_insert_is_answered : sent_to 2 unreported ≡ Some []
unfolding digits serde_json_on_literals
no_insert_is_answered = rw switch_table (rw name_column refl)

pub memory_closes_who_inserts : closed_in 2 unreported ≡ Some Memory
unfolding digits serde_json_on_literals
memory_closes_who_inserts = rw switch_table (rw name_column refl)

pub who_watches_is_not_closed : closed_in 1 unreported ≡ None
unfolding digits serde_json_on_literals
who_watches_is_not_closed = rw switch_table (rw name_column refl)

-- ---- an allocation fails while a transaction that waits is tried again

-- a wait for a switch of the name s1
abbrev wait_for_s1 : Data
wait_for_s1 =
    object (member (codes "columns") (array (item (string (codes "name")) no_items)) (member (codes "op") (string (codes "wait"))
    (member (codes "rows") (array (item (object (member (codes "name") (string (codes "s1")) no_members)) no_items)) (member (codes "table") (string (codes "Switch"))
    (member (codes "until") (string (codes "==")) (member (codes "where") (array (item (array (item (string (codes "name")) (item (string (codes "==")) (item (string (codes "s1")) no_items)))) no_items)) no_members))))))

text-s1 : is_utf8 (codes "s1") ≡ true
unfolding is_utf8 chars serde_json_on_literals
text-s1 = refl

waits : transaction net0 empty owns_none (numbered 9 ∷ []) 0 (item wait_for_s1 no_items) ≡ Waits None
waits = rw switch_table (rw (name_column, text-s1) (rw (len-one (Text (codes "s1"))) (rw (entries-columns, entries-nothing) refl)))

-- session 1 waits for s1, which session 2 inserts
abbrev untried : List Entry
untried =
    entry (transacts 1 wait_for_s1) (numbered 9 ∷ []) []
    ∷ entry (transacts 2 insert_s1) (numbered 1 ∷ numbered 2 ∷ []) (record { number = 1; outcome = Committed } ∷ record { number = 2; outcome = NoMemory } ∷ [])
    ∷ []

-- session 1 is closed with what it waits for, and the row is there
pub closed_for_a_try : option_map (λ t. t.state) (runs untried)
    ≡ Some (record (opening net0 empty) { database = with_s1; sessions = record { serial = 2; monitors = [] } ∷ []; next = 3 })
unfolding digits serde_json_on_literals
closed_for_a_try = rw waits (rw insert_one (rw differ refl))

pub the_insert_is_answered : sent_to 2 untried ≡ Some (codes "{\"error\":null,\"id\":1,\"result\":[{\"uuid\":[\"uuid\",\"00000000-0000-0000-0000-000000000002\"]}]}")
unfolding digits serde_json_on_literals by_index
the_insert_is_answered = rw waits (rw insert_one (rw differ refl))

pub no_wait_is_answered : sent_to 1 untried ≡ Some []
unfolding digits serde_json_on_literals
no_wait_is_answered = rw waits (rw insert_one (rw differ refl))

pub memory_closes_who_waits : closed_in 1 untried ≡ Some Memory
unfolding digits serde_json_on_literals
memory_closes_who_waits = rw waits (rw insert_one (rw differ refl))

pub who_commits_is_not_closed : closed_in 2 untried ≡ None
unfolding digits serde_json_on_literals
who_commits_is_not_closed = rw waits (rw insert_one (rw differ refl))
