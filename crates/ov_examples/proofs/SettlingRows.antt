-- Worked transactions that wait: what is refused, canceled or closed, when they are due, and tries of them.
use Rattle.std.proofs.Common.{◌≡◌, ℕ, zero, suc, ◌+◌, List, [], ◌∷◌, Bool, true, false, cond, pos, Option, Some, None, Ok, refl, sym, ap, ◌∙◌, codes}
use Rattle.std.specs.Fmt.{digits}
use Rattle.std.specs.FinMap.{empty, get, insert, put, remove, entries, entries-insert, same_map, get-empty, get-insert, get-remove}
use Rattle.std.specs.Ordering.{eq_by_cmp}
use Rattle.serde_json.specs.Data.{Data, number, unsigned, string, array, object, Members, no_members, member, Items, no_items, item}
use Rattle.serde_json.proofs.OnLiterals.{serde_json_on_literals}
use Rattle.ov_specs.specs.machine.Machine.{State, Outstanding, Event, Take, Close, Tick, InputEnded, Entry, NoMemory, Committed, Stepped, opening, step, due, refused, Transact, work_of, last_moment}
use Rattle.ov_specs.specs.integrity.Committed.{committed}
use Rattle.ov_specs.specs.operations.Errors.{TimedOut, NotOwner, error_tree}
use Rattle.ov_specs.specs.operations.MatchingRows.{count_result}
use Rattle.ov_specs.specs.operations.OpOutcome.{empty_result}
use Rattle.ov_specs.specs.operations.Transaction.{Completes, Waits, transaction}
use Rattle.ov_specs.specs.rows.Database.{Row, Database, same_database}
use Rattle.ov_specs.specs.rows.Lines.{LineKey, line_cmp}
use Rattle.ov_specs.specs.values.Uuid.{Uuid}
use Rattle.ov_specs.specs.values.Value.{Integer, Text}
use Rattle.ov_specs.proofs.laws.Committing.{enough_committed}
use Rattle.ov_specs.proofs.laws.LineKeys.{key_total, key_exact, tied_same}
use Rattle.ov_examples.proofs.ConditionRows.{len-one}
use Rattle.ov_specs.specs.wire.Frame.{reply_tree, failure_tree}
use Rattle.ov_specs.specs.wire.Message.{Message, Call, Notification}
use Rattle.ov_examples.proofs.NetRows.{net, numbered, owns_none, table_is, on_switch, entries-tables}
use Rattle.ov_examples.proofs.TwoSwitches.{one, rows, row, key, columns_1, len-none, entries-one, entries-none, entries-columns_1, entries-put, entries-rows, entries-deleted, entries-empty}

-- ---- a transaction that waits for a switch, in a database without rows

abbrev id : ℕ → Data
id n = number (unsigned n)

abbrev wait_with : Members → Items
wait_with members =
    item (object (member (codes "op") (string (codes "wait")) (member (codes "rows") (array no_items) (member (codes "table") (string (codes "Switch")) members)))) no_items

abbrev until_there : Members
until_there = member (codes "until") (string (codes "!=")) (member (codes "where") (array no_items) no_members)

abbrev wait : Items
wait = wait_with until_there

abbrev wait_for : ℕ → Items
wait_for ms = wait_with (member (codes "timeout") (number (unsigned ms)) until_there)

abbrev transact : ℕ → Items → Message
transact n operations = Call (id n) (codes "transact") (item (string (codes "Net")) operations)

-- the transaction of session 1 with this id, as it waits
abbrev waits : ℕ → ℕ → Option ℕ → Items → Outstanding
waits n arrival timeout operations = record { session = 1; id = id n; draws = numbered 1 ∷ []; operations = operations; arrival = arrival; timeout = timeout }

-- sessions 1 and 2 are open, and these wait
abbrev with_waiting : List Outstanding → State
with_waiting waiting = record (opening net empty) { sessions = record { serial = 1; monitors = [] } ∷ record { serial = 2; monitors = [] } ∷ []; outstanding = waiting; next = 3 }

abbrev at : ℕ → Event → Entry
at moment event = record { event = event; choice = record { moment = moment; draws = []; outcomes = [] } }

-- one tree, sent to session 1
abbrev answers : State → Data → Option Stepped
answers s tree = Some (record { state = s; sent = record { session = 1; tree = tree } ∷ [] })

-- ---- what is not tried

pub id_of_one_that_waits : step (with_waiting (waits 1 0 None wait ∷ [])) (at 0 (Take 1 (transact 1 wait))) ≡ answers (with_waiting (waits 1 0 None wait ∷ [])) (failure_tree (id 1) (codes "duplicate request id"))
unfolding digits serde_json_on_literals
id_of_one_that_waits = refl

-- another session may use it
pub ids_are_a_sessions_own : work_of (with_waiting (waits 1 0 None wait ∷ [])) 2 (transact 1 wait) ≡ Transact (id 1) wait
unfolding digits serde_json_on_literals
ids_are_a_sessions_own = refl

pub waiting_one_is_canceled : step (with_waiting (waits 1 0 None wait ∷ waits 2 0 None wait ∷ [])) (at 0 (Take 1 (Notification (codes "cancel") (item (id 1) no_items))))
    ≡ answers (with_waiting (waits 2 0 None wait ∷ [])) (failure_tree (id 1) (codes "canceled"))
unfolding digits serde_json_on_literals
waiting_one_is_canceled = refl

pub nothing_to_cancel : step (with_waiting (waits 1 0 None wait ∷ [])) (at 0 (Take 2 (Notification (codes "cancel") (item (id 1) no_items)))) ≡ Some (record { state = with_waiting (waits 1 0 None wait ∷ []); sent = [] })
unfolding digits serde_json_on_literals
nothing_to_cancel = refl

pub cancel_is_no_call : work_of (with_waiting (waits 1 0 None wait ∷ [])) 1 (Call (id 2) (codes "cancel") (item (id 1) no_items)) ≡ refused (id 2) (codes "unknown method")
unfolding digits serde_json_on_literals
cancel_is_no_call = refl

pub closing_drops_what_waits : step (with_waiting (waits 1 0 None wait ∷ [])) (at 0 (Close 1 InputEnded)) ≡ Some (record { state = record (with_waiting []) { sessions = record { serial = 2; monitors = [] } ∷ [] }; sent = [] })
closing_drops_what_waits = refl

-- ---- the greatest number that may wait

-- this many waiting transactions, with consecutive ids from this one
abbrev many : ℕ → ℕ → List Outstanding
many zero from = []
many (suc n) from = waits from 0 None wait ∷ many n (from + 1)

pub too_many_wait : work_of (with_waiting (many 64 1)) 1 (transact 65 wait) ≡ refused (id 65) (codes "resources exhausted")
unfolding digits serde_json_on_literals
too_many_wait = refl

-- once one of them is canceled
pub one_more_may_wait : work_of (with_waiting (many 63 2)) 1 (transact 65 wait) ≡ Transact (id 65) wait
unfolding digits serde_json_on_literals
one_more_may_wait = refl

-- ---- when they are due

pub first_is_due : due (with_waiting (waits 1 0 None wait ∷ waits 2 1000 (Some 50) wait ∷ waits 3 10 (Some 2000) wait ∷ [])) ≡ Some 1050
first_is_due = refl

pub none_is_due : due (with_waiting (waits 1 0 None wait ∷ [])) ≡ None
none_is_due = refl

pub last_moment_is_due : due (with_waiting (waits 1 18446744073709551615 (Some 0) wait ∷ [])) ≡ Some last_moment
last_moment_is_due = refl

-- a moment that never comes
pub never_is_not_due : due (with_waiting (waits 1 18446744073709551615 (Some 1) wait ∷ [])) ≡ None
never_is_not_due = refl

-- ---- tries

pub timed_out_at_once : step (with_waiting []) (record { event = Take 1 (transact 1 (wait_for 0)); choice = record { moment = 0; draws = numbered 1 ∷ []; outcomes = [] } })
    ≡ answers (with_waiting []) (reply_tree (id 1) (array (item (error_tree TimedOut) no_items)))
unfolding digits serde_json_on_literals
timed_out_at_once = rw (table_is (codes "Switch")) (rw entries-empty (rw entries-empty refl))

pub timed_out_at_tick : step (record (with_waiting (waits 1 1000 (Some 50) (wait_for 50) ∷ [])) { moment = 1049 }) (at 1050 Tick)
    ≡ answers (record (with_waiting []) { moment = 1050 }) (reply_tree (id 1) (array (item (error_tree TimedOut) no_items)))
unfolding digits serde_json_on_literals
timed_out_at_tick = rw (table_is (codes "Switch")) (rw entries-empty (rw entries-empty refl))

-- a try that runs out of memory closes the session of its transaction
pub memory_in_a_try : step (with_waiting (waits 1 0 None wait ∷ [])) (record { event = Tick; choice = record { moment = 7; draws = []; outcomes = record { number = 1; outcome = NoMemory } ∷ [] } })
    ≡ Some (record { state = record (with_waiting []) { sessions = record { serial = 2; monitors = [] } ∷ []; moment = 7 }; sent = [] })
memory_in_a_try = refl

-- ---- a wait that is blocked

pub blocked_one_waits : step (with_waiting []) (record { event = Take 1 (transact 1 (wait_for 50)); choice = record { moment = 1000; draws = numbered 1 ∷ []; outcomes = [] } })
    ≡ Some (record { state = record (with_waiting (waits 1 1000 (Some 50) (wait_for 50) ∷ [])) { moment = 1000 }; sent = [] })
unfolding digits serde_json_on_literals
blocked_one_waits = rw (table_is (codes "Switch")) (rw entries-empty refl)

pub nothing_before_its_time : step (record (with_waiting (waits 1 1000 (Some 50) (wait_for 50) ∷ [])) { moment = 1000 }) (at 1049 Tick)
    ≡ Some (record { state = record (with_waiting (waits 1 1000 (Some 50) (wait_for 50) ∷ [])) { moment = 1049 }; sent = [] })
unfolding digits serde_json_on_literals
nothing_before_its_time = rw (table_is (codes "Switch")) (rw entries-empty refl)

-- ---- another session deletes the switches

abbrev until_gone : List ℕ → Data
until_gone table =
    object (member (codes "op") (string (codes "wait")) (member (codes "rows") (array no_items) (member (codes "table") (string table)
    (member (codes "until") (string (codes "==")) (member (codes "where") (array no_items) no_members)))))

abbrev delete_all : List ℕ → Data
delete_all table = object (member (codes "op") (string (codes "delete")) (member (codes "table") (string table) (member (codes "where") (array no_items) no_members)))

abbrev no_switches : Database
no_switches = remove (remove rows (key 7)) (key 8)

committed-none : (before : Database) (version : Uuid) → committed net before version no_switches ≡ Ok no_switches
committed-none before version = enough_committed net before version no_switches (rw entries-deleted refl) (rw (entries-deleted, entries-tables) refl)

-- both are deleted
deleted : transaction net rows owns_none (numbered 2 ∷ []) 0 (item (delete_all (codes "Switch")) no_items) ≡ Completes (item (count_result 2) no_items) no_switches
deleted = rw (table_is (codes "Switch")) (rw entries-rows (rw (committed-none rows (numbered 2)) refl))

-- so the wait is met
met : transaction net no_switches owns_none (numbered 1 ∷ []) 7 (item (until_gone (codes "Switch")) no_items) ≡ Completes (item empty_result no_items) no_switches
met = rw (table_is (codes "Switch")) (rw entries-deleted (rw (committed-none no_switches (numbered 1)) refl))

others : same_database rows no_switches ≡ false
others = rw (entries-rows, entries-deleted) refl

same : same_database no_switches no_switches ≡ true
same = rw entries-deleted refl

pub one_that_waited_is_answered : step (record (with_waiting (waits 1 0 None (item (until_gone (codes "Switch")) no_items) ∷ [])) { database = rows })
    (record { event = Take 2 (transact 1 (item (delete_all (codes "Switch")) no_items)); choice = record { moment = 7; draws = numbered 2 ∷ []; outcomes = record { number = 1; outcome = Committed } ∷ [] } })
    ≡ Some (record {
      state = record (with_waiting []) { database = no_switches; moment = 7 };
      sent = record { session = 2; tree = reply_tree (id 1) (array (item (count_result 2) no_items)) } ∷ record { session = 1; tree = reply_tree (id 1) (array (item empty_result no_items)) } ∷ [];
    })
unfolding digits serde_json_on_literals
one_that_waited_is_answered = rw deleted (rw others (rw met (rw same refl)))

-- in the order of their arrival
pub all_that_waited_are_answered : step (record (with_waiting (waits 1 0 None (item (until_gone (codes "Switch")) no_items) ∷ waits 2 0 None (item (until_gone (codes "Switch")) no_items) ∷ [])) { database = rows })
    (record { event = Take 2 (transact 1 (item (delete_all (codes "Switch")) no_items)); choice = record { moment = 7; draws = numbered 2 ∷ []; outcomes = record { number = 1; outcome = Committed } ∷ [] } })
    ≡ Some (record {
      state = record (with_waiting []) { database = no_switches; moment = 7 };
      sent =
          record { session = 2; tree = reply_tree (id 1) (array (item (count_result 2) no_items)) }
          ∷ record { session = 1; tree = reply_tree (id 1) (array (item empty_result no_items)) }
          ∷ record { session = 1; tree = reply_tree (id 2) (array (item empty_result no_items)) }
          ∷ [];
    })
unfolding digits serde_json_on_literals
all_that_waited_are_answered = rw deleted (rw others (rw met (rw same (rw met (rw same refl)))))

-- ---- an "assert" after a wait

abbrev then_assert : Items
then_assert = item (until_gone (codes "Switch")) (item (object (member (codes "lock") (string (codes "L")) (member (codes "op") (string (codes "assert")) no_members))) no_items)

-- the transaction of session 1 waits, and these are in the queue of L as session 2 deletes the switches
abbrev with_queue_of_l : List ℕ → State
with_queue_of_l queue = record (with_waiting (waits 1 0 None then_assert ∷ [])) { database = rows; queues = (codes "L", queue) ∷ [] }

abbrev deletes : Entry
deletes = record { event = Take 2 (transact 1 (item (delete_all (codes "Switch")) no_items)); choice = record { moment = 7; draws = numbered 2 ∷ []; outcomes = record { number = 1; outcome = Committed } ∷ [] } }

abbrev answered_with : List ℕ → Items → Option Stepped
answered_with queue results = Some (record {
  state = record (with_queue_of_l queue) { database = no_switches; outstanding = []; moment = 7 };
  sent = record { session = 2; tree = reply_tree (id 1) (array (item (count_result 2) no_items)) } ∷ record { session = 1; tree = reply_tree (id 1) (array results) } ∷ [];
})

pub assert_by_the_owner_after_a_wait : step (with_queue_of_l (1 ∷ 2 ∷ [])) deletes ≡ answered_with (1 ∷ 2 ∷ []) (item empty_result (item empty_result no_items))
unfolding digits serde_json_on_literals
assert_by_the_owner_after_a_wait =
    rw deleted (rw others (rw (table_is (codes "Switch")) (rw entries-deleted (rw (committed-none no_switches (numbered 1)) (rw same refl)))))

-- the lock was stolen while it waited
pub assert_after_a_wait_by_former_owner : step (with_queue_of_l (2 ∷ 1 ∷ [])) deletes ≡ answered_with (2 ∷ 1 ∷ []) (item empty_result (item (error_tree NotOwner) no_items))
unfolding digits serde_json_on_literals
assert_after_a_wait_by_former_owner = rw deleted (rw others (rw (table_is (codes "Switch")) (rw entries-deleted (rw same refl))))

-- ---- a transaction that waits for what another waiting transaction does

abbrev port : LineKey
port = (codes "Port", numbered 6)

abbrev port_row : Row
port_row = record { version = numbered 9; columns = insert (insert empty (codes "name") (one (Text (codes "s1")))) (codes "tag") (one (Integer (pos 5))) }

-- a switch, then a port too
abbrev switch_alone : Database
switch_alone = insert empty (key 7) (row columns_1)

abbrev both : Database
both = insert switch_alone port port_row

-- without the port, and without both
abbrev port_gone : Database
port_gone = remove both port

abbrev both_gone : Database
both_gone = remove port_gone (key 7)

entries-both : entries both ≡ (port, port_row) ∷ (key 7, row columns_1) ∷ []
entries-both = entries-insert key_total switch_alone port port_row ∙ ap (put line_cmp port port_row) (entries-put (key 7) (row columns_1))

-- what a row of these is, by whether the key is that of the port or of the switch
module _ (q : LineKey) where
  in_switch_alone : get switch_alone q ≡ cond (eq_by_cmp line_cmp q (key 7)) (Some (row columns_1)) None
  in_switch_alone = get-insert key_total empty (key 7) (row columns_1) q ∙ ap (cond (eq_by_cmp line_cmp q (key 7)) (Some (row columns_1))) (get-empty line_cmp q)

  in_port_gone : get port_gone q ≡ cond (eq_by_cmp line_cmp q port) None (cond (eq_by_cmp line_cmp q port) (Some port_row) (get switch_alone q))
  in_port_gone = get-remove key_total both port q ∙ ap (cond (eq_by_cmp line_cmp q port) None) (get-insert key_total switch_alone port port_row q)

  no_port : eq_by_cmp line_cmp q port ≡ true → get switch_alone q ≡ None
  no_port is = ap (get switch_alone) (tied_same q port is) ∙ (get-insert key_total empty (key 7) (row columns_1) port ∙ get-empty line_cmp port)

  port_gone_is : get port_gone q ≡ get switch_alone q
  port_gone_is = in_port_gone ∙ by (eq_by_cmp line_cmp q port) no_port
    where
      by : (b : Bool) → (b ≡ true → get switch_alone q ≡ None) → cond b None (cond b (Some port_row) (get switch_alone q)) ≡ get switch_alone q
      by true none = sym (none refl)
      by false none = refl

  both_gone_is : get both_gone q ≡ None
  both_gone_is =
      get-remove key_total port_gone (key 7) q
      ∙ (ap (cond (eq_by_cmp line_cmp q (key 7)) None) (port_gone_is ∙ in_switch_alone) ∙ by (eq_by_cmp line_cmp q (key 7)))
    where
      by : (b : Bool) → cond b None (cond b (Some (row columns_1)) None) ≡ None
      by true = refl
      by false = refl

entries-port_gone : entries port_gone ≡ (key 7, row columns_1) ∷ []
entries-port_gone = ap entries (same_map key_total key_exact port_gone switch_alone port_gone_is) ∙ entries-put (key 7) (row columns_1)

entries-both_gone : entries both_gone ≡ []
entries-both_gone = ap entries (same_map key_total key_exact both_gone empty (λ q. both_gone_is q ∙ sym (get-empty line_cmp q))) ∙ entries-empty

committed-port_gone : committed net both (numbered 3) port_gone ≡ Ok port_gone
committed-port_gone =
    enough_committed net both (numbered 3) port_gone
    (rw entries-port_gone (rw (table_is (codes "Switch")) (rw entries-columns_1 (rw (on_switch (codes "load"), on_switch (codes "name"), on_switch (codes "ports")) (rw (len-one (Integer (pos 4)), len-one (Text (codes "s1")), len-none) refl)))))
    (rw (entries-port_gone, entries-tables) (rw (table_is (codes "Switch")) (rw entries-columns_1 (rw (on_switch (codes "load"), on_switch (codes "name"), on_switch (codes "ports"))
    (rw (entries-one (Integer (pos 4)), entries-one (Text (codes "s1")), entries-none) refl)))))

committed-both_gone : (before : Database) (version : Uuid) → committed net before version both_gone ≡ Ok both_gone
committed-both_gone before version = enough_committed net before version both_gone (rw entries-both_gone refl) (rw (entries-both_gone, entries-tables) refl)

-- transaction 1 waits for the end of the switch, and transaction 2, which waits for the end of the port, is that end
abbrev first : Items
first = item (until_gone (codes "Switch")) no_items

abbrev second : Items
second = item (until_gone (codes "Port")) (item (delete_all (codes "Switch")) no_items)

abbrev third : Items
third = item (delete_all (codes "Port")) no_items

third_does : transaction net both owns_none (numbered 3 ∷ []) 0 third ≡ Completes (item (count_result 1) no_items) port_gone
third_does = rw (table_is (codes "Port")) (rw entries-both (rw committed-port_gone refl))

first_waits : transaction net port_gone owns_none (numbered 1 ∷ []) 7 first ≡ Waits None
first_waits = rw (table_is (codes "Switch")) (rw entries-port_gone refl)

second_does : transaction net port_gone owns_none (numbered 1 ∷ []) 7 second ≡ Completes (item empty_result (item (count_result 1) no_items)) both_gone
second_does = rw (table_is (codes "Port")) (rw entries-port_gone (rw (table_is (codes "Switch")) (rw entries-port_gone (rw (committed-both_gone port_gone (numbered 1)) refl))))

first_does : transaction net both_gone owns_none (numbered 1 ∷ []) 7 first ≡ Completes (item empty_result no_items) both_gone
first_does = rw (table_is (codes "Switch")) (rw entries-both_gone (rw (committed-both_gone both_gone (numbered 1)) refl))

differ_1 : same_database both port_gone ≡ false
differ_1 = rw (entries-both, entries-port_gone) refl

differ_2 : same_database port_gone both_gone ≡ false
differ_2 = rw (entries-port_gone, entries-both_gone) refl

same_gone : same_database both_gone both_gone ≡ true
same_gone = rw entries-both_gone refl

-- transaction 1 is tried, then 2, and then 1 again: three attempts after the first
pub settling_goes_back : step (record (with_waiting (waits 1 0 None first ∷ waits 2 0 None second ∷ [])) { database = both })
    (record { event = Take 2 (transact 1 third); choice = record { moment = 7; draws = numbered 3 ∷ []; outcomes = record { number = 1; outcome = Committed } ∷ record { number = 3; outcome = Committed } ∷ [] } })
    ≡ Some (record {
      state = record (with_waiting []) { database = both_gone; moment = 7 };
      sent =
          record { session = 2; tree = reply_tree (id 1) (array (item (count_result 1) no_items)) }
          ∷ record { session = 1; tree = reply_tree (id 2) (array (item empty_result (item (count_result 1) no_items))) }
          ∷ record { session = 1; tree = reply_tree (id 1) (array (item empty_result no_items)) }
          ∷ [];
    })
unfolding digits serde_json_on_literals
settling_goes_back =
    rw third_does (rw differ_1 (rw first_waits (rw second_does (rw differ_2 (rw first_does (rw same_gone refl))))))
