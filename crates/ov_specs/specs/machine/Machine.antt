-- The machine: what one event makes of its state and what it sends, given what the outside chose (RFC 7047, 4).
use Rattle.std.specs.Prelude.{◌≡◌, ◌⊎◌, ℕ, zero, suc, ◌+◌, ◌-◌, ◌==◌, ◌&&◌, not, nat_le, min, List, [], ◌∷◌, ◌++◌, length, map, filter, Bool, true, false, if◌then◌else◌, Option, Some, None, is_some, option_map, option_and_then, option_to_list, unwrap_or, codes, Result, Ok, Err}
use Rattle.std.specs.List.{list_any, find, filter_map, flat_map}
use Rattle.serde_json.specs.Data.{Data, array, object, no_members, Items, no_items, item}
use Rattle.serde_json.specs.Find.{as_str, as_object}
use Rattle.serde_json.specs.Written.{compact_text}
use Rattle.ov_specs.specs.locks.Queues.{Queues, LockCall, Lock, Steal, Unlock, lock_name, owns, leave, call_refusal, after_call, call_result, told_of_call, told_of_leaving}
use Rattle.ov_specs.specs.monitors.Monitors.{Monitor, added, canceled}
use Rattle.ov_specs.specs.monitors.Requests.{MonitorFault, monitor_fault_text}
use Rattle.ov_specs.specs.monitors.Updates.{initial_of, all_updates, update_notification}
use Rattle.ov_specs.specs.rows.Database.{Database, same_database}
use Rattle.ov_specs.specs.wire.Message.{Message, Call, Notification, Answer, Bad}
use Rattle.ov_specs.specs.wire.Frame.{reply_tree, failure_tree}
use Rattle.ov_specs.specs.wire.Method.{database_names, bad_text}
use Rattle.std.specs.Str.{bytes_eq}
use Rattle.ov_specs.specs.schema.SchemaTypes.{Schema}
use Rattle.ov_specs.specs.operations.Draws.{draws_wanted}
use Rattle.ov_specs.specs.operations.Transaction.{TransactionOutcome, Completes, Waits, transaction, exhausted_results, failed_results}
use Rattle.ov_specs.specs.values.Uuid.{Uuid}

-- ---- what happens, and what the outside chose

-- why a session is closed
pub data Cause : Type 0 where
  InputEnded : Cause
  ReadFault : Cause
  WriteFault : Cause
  Damaged : Cause
  Overrun : Cause
  Memory : Cause

-- a session opens, a message of a session is taken, a session is closed, time passes
pub data Event : Type 0 where
  Open : Event
  Take : (session : ℕ) (message : Message) → Event
  Close : (session : ℕ) (cause : Cause) → Event
  Tick : Event

-- what came of an attempt: the store kept its changes, refused them for lack of memory or for their size, or failed; or an
-- allocation failed
pub data Outcome : Type 0 where
  Committed : Outcome
  Exhausted : Outcome
  Failed : Outcome
  NoMemory : Outcome

-- an attempt, by its number in the event from 1, and what came of it
pub record Attempt : Type 0 where
  pub number : ℕ
  pub outcome : Outcome

-- The moment in milliseconds, the identifiers drawn, and what came of the attempts that are listed. An attempt that is not
-- listed made no store call, and no allocation failed in it.
pub record Choice : Type 0 where
  pub moment : ℕ
  pub draws : List Uuid
  pub outcomes : List Attempt

-- an event with its choice
pub record Entry : Type 0 where
  pub event : Event
  pub choice : Choice

-- ---- the state

-- an open session
pub record Session : Type 0 where
  pub serial : ℕ
  pub monitors : List Monitor  -- in order of creation

-- A waiting transaction: its session, the id of its reply, the identifiers drawn for it, its operations, the moment of its
-- arrival, and the timeout, if any, of the wait that blocked its last try (RFC 7047, 4.1.3, 5.2.6).
pub record Outstanding : Type 0 where
  pub session : ℕ
  pub id : Data
  pub draws : List Uuid
  pub operations : Items
  pub arrival : ℕ
  pub timeout : Option ℕ

-- what the machine knows between two events
pub record State : Type 0 where
  pub schema : Schema  -- of the database
  pub database : Database  -- as it was committed
  pub sealed : Option Database  -- after a commit that failed, the database that it would have made; no later commit is made
  pub sessions : List Session  -- the open ones, in order of opening
  pub queues : Queues  -- of the locks that sessions asked for
  pub outstanding : List Outstanding  -- the transactions that wait, in order of arrival
  pub next : ℕ  -- the serial of the next session
  pub moment : ℕ  -- the last one

-- before any event: the database as it was opened, no open session, and no lock asked for; serials begin with 1
abbrev pub opening : Schema → Database → State
opening schema database = record {
  schema = schema;
  database = database;
  sealed = None;
  sessions = [];
  queues = [];
  outstanding = [];
  next = 1;
  moment = 0;
}

-- What a crash may leave: the database as it was committed, or the one that a failed commit would have made.
abbrev pub Left : State → Database → Type 0
Left s d = (d ≡ s.database) ⊎ (s.sealed ≡ Some d)

-- the session is open
abbrev pub is_open : State → ℕ → Bool
is_open s session = list_any (λ n. n.serial == session) s.sessions

-- the state with one more session, which has the next serial
abbrev pub with_next_session : State → State
with_next_session s = record s { sessions = s.sessions ++ record { serial = s.next; monitors = [] } ∷ []; next = s.next + 1 }

-- the monitors of the session
abbrev pub monitors_of : ℕ → State → List Monitor
monitors_of session s = unwrap_or (option_map (λ n. n.monitors) (find (λ n. n.serial == session) s.sessions)) []

-- a session, with these monitors if it is this one
abbrev pub session_watching : ℕ → List Monitor → Session → Session
session_watching session monitors n = record n { monitors = if n.serial == session then monitors else n.monitors }

-- the state in which the session has these monitors
abbrev pub with_monitors : ℕ → List Monitor → State → State
with_monitors session monitors s = record s { sessions = map (session_watching session monitors) s.sessions }

-- these without those of the session
abbrev pub of_others : ℕ → List Outstanding → List Outstanding
of_others session waiting = filter (λ o. not (o.session == session)) waiting

-- the state without the session, and without what it asked for
abbrev pub without_session : ℕ → State → State
without_session session s = record s {
  sessions = filter (λ n. not (n.serial == session)) s.sessions;
  queues = leave session s.queues;
  outstanding = of_others session s.outstanding;
}

-- Two ids are the same if their texts are.
abbrev pub same_id : Data → Data → Bool
same_id a b = bytes_eq (compact_text a) (compact_text b)

-- the transaction of the session with the id
abbrev pub is_request : ℕ → Data → Outstanding → Bool
is_request session id o = (o.session == session) && same_id o.id id

-- a transaction of the session with this id waits
abbrev pub is_waiting : State → ℕ → Data → Bool
is_waiting s session id = list_any (is_request session id) s.outstanding

-- the state without that transaction
abbrev pub without_request : ℕ → Data → State → State
without_request session id s = record s { outstanding = filter (λ o. not (is_request session id o)) s.outstanding }

-- how many transactions of the session wait
abbrev pub waiting_of : ℕ → State → ℕ
waiting_of session s = length (filter (λ o. o.session == session) s.outstanding)

-- how many transactions of a session may wait
abbrev pub most_waiting : ℕ
most_waiting = 64

-- the last moment that there is, in milliseconds
abbrev pub last_moment : ℕ
last_moment = 18446744073709551615

-- when the transaction times out, if it has a timeout and that moment is not after the last one
abbrev pub timeout_of : Outstanding → Option ℕ
timeout_of o =
    option_and_then (λ timeout. if nat_le (o.arrival + timeout) last_moment then Some (o.arrival + timeout) else None) o.timeout

-- the least of this and that one, if there is one
abbrev pub least_with : ℕ → Option ℕ → ℕ
least_with n None = n
least_with n (Some m) = min n m

-- the least of these
abbrev pub least : List ℕ → Option ℕ
least [] = None
least (n ∷ others) = Some (least_with n (least others))

-- when the first of the waiting transactions times out
abbrev pub due : State → Option ℕ
due s = least (filter_map timeout_of s.outstanding)

-- a tree, and the session that it is sent to
pub record Sent : Type 0 where
  pub session : ℕ
  pub tree : Data

-- a state, and what was sent on the way to it, in order
pub record Stepped : Type 0 where
  pub state : State
  pub sent : List Sent

-- ---- the work on a message

-- what a message asks for: an answer at once, a transaction, to cancel one that waits, a lock, or that its session has these
-- monitors, with this result (RFC 7047, 4.1)
pub data Work : Type 0 where
  Answers : (trees : List Data) → Work
  Transact : (id : Data) (operations : Items) → Work
  Cancels : (id : Data) → Work
  Locks : (call : LockCall) (id : Data) (name : List ℕ) → Work
  Watches : (id result : Data) (monitors : List Monitor) → Work

-- a result, at once (JSON-RPC 1.0, 1.2)
abbrev pub answered : Data → Data → Work
answered id result = Answers (reply_tree id result ∷ [])

-- an error in place of a result (JSON-RPC 1.0, 1.2)
abbrev pub refused : Data → List ℕ → Work
refused id text = Answers (failure_tree id text ∷ [])

-- A transaction is not tried if one of its session with this id waits, or if as many of its session wait as may.
abbrev pub transact_work : State → ℕ → Data → Items → Work
transact_work s session id operations =
    if is_waiting s session id then refused id (codes "duplicate request id")
    else (if nat_le most_waiting (waiting_of session s) then refused id (codes "resources exhausted")
    else Transact id operations)

-- a transaction on the named database, which must be the one that is served (RFC 7047, 4.1.3)
abbrev pub transact_call_on : State → ℕ → Data → Option (List ℕ) → Items → Work
transact_call_on s session id None operations = refused id (codes "syntax error")
transact_call_on s session id (Some name) operations =
    if bytes_eq name s.schema.name then transact_work s session id operations else refused id (codes "unknown database")

-- the params of "transact": the name of a database, and then the operations (RFC 7047, 4.1.3)
abbrev pub transact_call : State → ℕ → Data → Items → Work
transact_call s session id no_items = refused id (codes "syntax error")
transact_call s session id (item d operations) = transact_call_on s session id (as_str d) operations

-- the schema, as it was read, of the named database, which must be the one that is served (RFC 7047, 4.1.2)
abbrev pub schema_call_on : State → Data → Option (List ℕ) → Work
schema_call_on s id None = refused id (codes "syntax error")
schema_call_on s id (Some name) =
    if bytes_eq name s.schema.name then answered id s.schema.tree else refused id (codes "unknown database")

-- the params of "get_schema": the name of a database, and no more (RFC 7047, 4.1.2)
abbrev pub schema_call : State → Data → Items → Work
schema_call s id no_items = refused id (codes "syntax error")
schema_call s id (item d no_items) = schema_call_on s id (as_str d)
schema_call s id (item d (item e items)) = refused id (codes "syntax error")

-- what is asked for, unless it is refused with a text
abbrev pub unless_refused : Data → Option (List ℕ) → Work → Work
unless_refused id None work = work
unless_refused id (Some text) work = refused id text

-- what is asked of the named lock (RFC 7047, 4.1.8)
abbrev pub lock_call_on : State → ℕ → Data → LockCall → Option (List ℕ) → Work
lock_call_on s session id call None = refused id (codes "syntax error")
lock_call_on s session id call (Some name) = unless_refused id (call_refusal call name session s.queues) (Locks call id name)

-- the params of "lock", "steal" and "unlock": the name of a lock, and no more (RFC 7047, 4.1.8)
abbrev pub lock_call : State → ℕ → Data → LockCall → Items → Work
lock_call s session id call no_items = refused id (codes "syntax error")
lock_call s session id call (item d no_items) = lock_call_on s session id call (lock_name (as_str d))
lock_call s session id call (item d (item e items)) = refused id (codes "syntax error")

-- the monitors with one more, of this name, and what it reports at first (RFC 7047, 4.1.5)
abbrev pub monitor_work : State → Data → Data → Result (List Monitor) MonitorFault → Work
monitor_work s id name (Ok monitors) = Watches id (initial_of s.database name monitors) monitors
monitor_work s id name (Err fault) = refused id (monitor_fault_text fault)

-- a monitor of the named database, which must be the one that is served (RFC 7047, 4.1.5)
abbrev pub monitor_call_on : State → ℕ → Data → Option (List ℕ) → Data → Data → Work
monitor_call_on s session id None name requests = refused id (codes "syntax error")
monitor_call_on s session id (Some database) name requests =
    if bytes_eq database s.schema.name then monitor_work s id name (added s.schema (monitors_of session s) name requests)
    else refused id (codes "unknown database")

-- the params of "monitor": the name of a database, that of the monitor, and an object of requests (RFC 7047, 4.1.5)
abbrev pub monitor_call : State → ℕ → Data → Items → Work
monitor_call s session id (item d (item name (item requests no_items))) =
    if is_some (as_object requests) then monitor_call_on s session id (as_str d) name requests
    else refused id (codes "syntax error")
monitor_call s session id params = refused id (codes "syntax error")

-- the monitors without one (RFC 7047, 4.1.7)
abbrev pub monitor_cancel_work : Data → Result (List Monitor) MonitorFault → Work
monitor_cancel_work id (Ok monitors) = Watches id (object no_members) monitors
monitor_cancel_work id (Err fault) = refused id (monitor_fault_text fault)

-- the params of "monitor_cancel": the name of a monitor, and no more (RFC 7047, 4.1.7)
abbrev pub monitor_cancel_call : State → ℕ → Data → Items → Work
monitor_cancel_call s session id no_items = refused id (codes "syntax error")
monitor_cancel_call s session id (item name no_items) = monitor_cancel_work id (canceled (monitors_of session s) name)
monitor_cancel_call s session id (item name (item d items)) = refused id (codes "syntax error")

-- what a call asks for, by its method; no other method is known (RFC 7047, 4.1.1 to 4.1.3, 4.1.5, 4.1.7, 4.1.8, 4.1.11; the
-- refusal of others is this server's)
abbrev pub call_of : State → ℕ → Data → List ℕ → Items → Work
call_of s session id method params =
    if bytes_eq method (codes "list_dbs") then answered id (database_names s.schema.name)
    else (if bytes_eq method (codes "get_schema") then schema_call s id params
    else (if bytes_eq method (codes "transact") then transact_call s session id params
    else (if bytes_eq method (codes "echo") then answered id (array params)
    else (if bytes_eq method (codes "lock") then lock_call s session id Lock params
    else (if bytes_eq method (codes "steal") then lock_call s session id Steal params
    else (if bytes_eq method (codes "unlock") then lock_call s session id Unlock params
    else (if bytes_eq method (codes "monitor") then monitor_call s session id params
    else (if bytes_eq method (codes "monitor_cancel") then monitor_cancel_call s session id params
    else refused id (codes "unknown method")))))))))

-- the params of "cancel": the id of a waiting transaction of the session; others do nothing (RFC 7047, 4.1.4)
abbrev pub cancel_notification : State → ℕ → Items → Work
cancel_notification s session no_items = Answers []
cancel_notification s session (item id no_items) = if is_waiting s session id then Cancels id else Answers []
cancel_notification s session (item id (item d items)) = Answers []

-- what a notification asks for: nothing but to cancel (RFC 7047, 4.1.4)
abbrev pub notification_of : State → ℕ → List ℕ → Items → Work
notification_of s session method params =
    if bytes_eq method (codes "cancel") then cancel_notification s session params else Answers []

-- what a message of the session asks for: a reply asks for nothing, and what can't be taken is answered with an error
-- (JSON-RPC 1.0, 1)
abbrev pub work_of : State → ℕ → Message → Work
work_of s session (Call id method params) = call_of s session id method params
work_of s session (Notification method params) = notification_of s session method params
work_of s session Answer = Answers []
work_of s session (Bad id kind) = refused id (bad_text kind)

-- these trees, sent to the session
abbrev pub to_session : ℕ → List Data → List Sent
to_session session trees = map (λ tree. record { session = session; tree = tree }) trees

-- notifications, each to its session
abbrev pub told : List (ℕ × Data) → List Sent
told notifications = map (λ notification. record { session = notification.0; tree = notification.1 }) notifications

-- The session is closed, and is sent nothing. Those that become the owners of its locks are notified (RFC 7047, 4.1.9).
abbrev pub closed : State → ℕ → Stepped
closed s session = record { state = without_session session s; sent = told (told_of_leaving session s.queues) }

-- These are sent. The store is not asked, so it answers nothing.
abbrev pub sends_at_once : State → List Sent → Option Outcome → Option Stepped
sends_at_once s sent None = Some (record { state = s; sent = sent })
sends_at_once s sent (Some outcome) = None

-- ---- a transaction

-- the results of a transaction, as they are sent (RFC 7047, 4.1.3)
abbrev pub results_of : Data → Items → List Data
results_of id results = reply_tree id (array results) ∷ []

-- the results, sent to the session that asked for the transaction
abbrev pub results_to : ℕ → Data → Items → List Sent
results_to session id results = to_session session (results_of id results)

-- what the monitors report of a change of the database, by session in order of opening, and by monitor in order of creation
-- (RFC 7047, 4.1.6; the order is this server's)
abbrev pub updates_sent : Database → Database → List Session → List Sent
updates_sent before after sessions =
    flat_map (λ n. to_session n.serial (map update_notification (all_updates before after n.monitors))) sessions

-- What comes of the store's answer. If it keeps the change, the database is the new one, and the updates of the monitors are
-- sent before the reply. If it refuses the change for lack of memory or for its size, nothing is changed. If it fails, the
-- database stays and is sealed.
abbrev pub commits : State → ℕ → Data → Items → Database → Option Outcome → Option Stepped
commits s session id results database (Some Committed) =
    Some (record {
      state = record s { database = database };
      sent = updates_sent s.database database s.sessions ++ results_to session id results;
    })
commits s session id results database (Some Exhausted) =
    Some (record { state = s; sent = results_to session id (exhausted_results results) })
commits s session id results database (Some Failed) =
    Some (record { state = record s { sealed = Some database }; sent = results_to session id (failed_results results) })
commits s session id results database outcome = None

-- What comes of a transaction with these results and this database after it. If that is the database as it was, the store is
-- not asked. If the database is sealed, the store is not asked, and the answer is as if it had failed. Otherwise the store is
-- asked to keep the change (RFC 7047, 4.1.3).
abbrev pub completes : State → ℕ → Data → Items → Database → Option Outcome → Option Stepped
completes s session id results database outcome =
    if same_database s.database database then sends_at_once s (results_to session id results) outcome
    else (if is_some s.sealed then sends_at_once s (results_to session id (failed_results results)) outcome
    else commits s session id results database outcome)

-- a transaction of the session as it arrives
abbrev pub arrived : State → ℕ → Data → List Uuid → Items → Outstanding
arrived s session id draws operations =
    record { session = session; id = id; draws = draws; operations = operations; arrival = s.moment; timeout = None }

-- the transaction waits, as the last one, with the timeout of the wait that blocks it
abbrev pub waits_on : State → Outstanding → Option ℕ → State
waits_on s o timeout = record s { outstanding = s.outstanding ++ record o { timeout = timeout } ∷ [] }

-- What comes of a transaction. One that is blocked waits, and is not answered (RFC 7047, 4.1.3).
abbrev pub attempt : State → Outstanding → TransactionOutcome → Option Outcome → Option Stepped
attempt s o (Completes results database) outcome = completes s o.session o.id results database outcome
attempt s o (Waits timeout) outcome = sends_at_once (waits_on s o timeout) [] outcome

-- ---- the attempts of an event

-- no attempt is listed
abbrev pub none_listed : List Attempt → Bool
none_listed attempts = length attempts == 0

-- the answer, if the choice suits
abbrev pub when : {A : Type 0} → Bool → Option A → Option A
when suits answer = if suits then answer else None

-- what is listed of one attempt, and of those after it
pub record Listed : Type 0 where
  pub outcome : Option Outcome
  pub others : List Attempt

-- what is listed of the attempt with this number, once the attempts before it are off the list
abbrev pub listed : ℕ → List Attempt → Listed
listed number [] = record { outcome = None; others = [] }
listed number (a ∷ attempts) =
    if a.number == number then record { outcome = Some a.outcome; others = attempts }
    else record { outcome = None; others = a ∷ attempts }

-- what an attempt comes to, and what is listed of the attempts after it
pub record Tried : Type 0 where
  pub stepped : Stepped
  pub others : List Attempt

-- The attempt with this number takes what is listed of it, and passes on what is listed of those after it.
abbrev pub tries : (Option Outcome → Option Stepped) → ℕ → List Attempt → Option Tried
tries attempt number attempts =
    option_map (λ t. record { stepped = t; others = (listed number attempts).others }) (attempt (listed number attempts).outcome)

-- nothing more is tried, so no more attempts may be listed
abbrev pub ends : Option Tried → Option Stepped
ends None = None
ends (Some tried) = when (none_listed tried.others) (Some tried.stepped)

-- ---- settling: the transactions that wait are tried again

-- What comes of a transaction in this state of the machine, at its age and with the locks that its session owns there, if the
-- schema is this one (RFC 7047, 4.1.3, 5.2.6).
abbrev pub tried_in : Schema → State → Outstanding → TransactionOutcome
tried_in schema s o = transaction schema s.database (owns s.queues o.session) o.draws (s.moment - o.arrival) o.operations

-- The transaction is tried again, now. If an allocation fails, its session is closed instead.
abbrev pub tries_again : State → Outstanding → Option Outcome → Option Stepped
tries_again s o (Some NoMemory) = Some (closed s o.session)
tries_again s o outcome = attempt s o (tried_in s.schema s o) outcome

-- the store kept the changes: so the database is another
abbrev pub is_kept : Option Outcome → Bool
is_kept None = false
is_kept (Some Committed) = true
is_kept (Some Exhausted) = false
is_kept (Some Failed) = false
is_kept (Some NoMemory) = false

-- What tries, one after another, come to; the number of the next; and whether the last one changed the database.
pub record Passed : Type 0 where
  pub tried : Tried
  pub next : ℕ
  pub has_changed : Bool

-- nothing was tried, or nothing more is
abbrev pub passed : State → ℕ → List Attempt → Bool → Passed
passed s number attempts has_changed = record {
  tried = record { stepped = record { state = s; sent = [] }; others = attempts };
  next = number;
  has_changed = has_changed;
}

-- these are sent first, and then what was sent on the way
abbrev pub passes_after : List Sent → Passed → Passed
passes_after sent p =
    record p { tried = record p.tried { stepped = record p.tried.stepped { sent = sent ++ p.tried.stepped.sent } } }

-- the transactions of sessions that are open
abbrev pub still_waiting : State → List Outstanding → List Outstanding
still_waiting s waiting = filter (λ o. is_open s o.session) waiting

-- these wait after those that wait already
abbrev pub waits_after : State → List Outstanding → State
waits_after s waiting = record s { outstanding = s.outstanding ++ still_waiting s waiting }

-- One pass over waiting transactions, in order of arrival: each is tried, and one that is blocked waits again. A try that
-- changes the database ends the pass, and those after it go on waiting. A transaction of a session that was closed on the
-- way is not tried.
abbrev pub pass : State → ℕ → List Attempt → List Outstanding → Option Passed
pass s number attempts [] = Some (passed s number attempts false)
pass s number attempts (o ∷ waiting) =
    if is_open s o.session
    then option_and_then
    (λ t. option_map (passes_after t.stepped.sent)
    (if is_kept (listed number attempts).outcome
    then Some (passed (waits_after t.stepped.state waiting) (number + 1) t.others true)
    else pass t.stepped.state (number + 1) t.others waiting))
    (tries (tries_again s o) number attempts)
    else pass s number attempts waiting

-- Passes, each from the first waiting transaction on, until one ends without a change of the database. Each other pass
-- answers a transaction, so there are at most as many of those as there are waiting transactions.
abbrev pub settle_within : ℕ → State → ℕ → List Attempt → Option Passed
settle_within zero s number attempts = Some (passed s number attempts false)
settle_within (suc most) s number attempts = option_and_then
    (λ p. if p.has_changed
    then option_map (passes_after p.tried.stepped.sent) (settle_within most p.tried.stepped.state p.next p.tried.others)
    else Some p)
    (pass (record s { outstanding = [] }) number attempts s.outstanding)

-- all waiting transactions are tried, beginning with the attempt of this number
abbrev pub settle : State → ℕ → List Attempt → Option Passed
settle s number attempts = settle_within (length s.outstanding) s number attempts

-- ---- one step

-- nothing was drawn
abbrev pub none_drawn : Choice → Bool
none_drawn c = length c.draws == 0

-- nothing was chosen but the moment
abbrev pub is_without_choice : Choice → Bool
is_without_choice c = none_listed c.outcomes && none_drawn c

-- how many identifiers are drawn for the work
abbrev pub draws_for : Work → ℕ
draws_for (Answers trees) = 0
draws_for (Transact id operations) = draws_wanted operations
draws_for (Cancels id) = 0
draws_for (Locks call id name) = 0
draws_for (Watches id result monitors) = 0

-- the queues of locks are changed: the session is answered, and another may be notified (RFC 7047, 4.1.8)
abbrev pub locks : State → ℕ → LockCall → Data → List ℕ → Stepped
locks s session call id name = record {
  state = record s { queues = after_call call name session s.queues };
  sent =
      to_session session (reply_tree id (call_result call name s.queues) ∷ [])
      ++ told (option_to_list (told_of_call call name session s.queues));
}

-- the work, done with the identifiers that were drawn for it, and with the store's answer if it was asked
abbrev pub does : State → ℕ → List Uuid → Option Outcome → Work → Option Stepped
does s session draws outcome (Answers trees) = sends_at_once s (to_session session trees) outcome
does s session draws outcome (Transact id operations) =
    attempt s (arrived s session id draws operations)
    (transaction s.schema s.database (owns s.queues session) draws 0 operations) outcome
does s session draws outcome (Cancels id) =
    sends_at_once (without_request session id s) (to_session session (failure_tree id (codes "canceled") ∷ [])) outcome
does s session draws outcome (Locks call id name) =
    sends_at_once (locks s session call id name).state (locks s session call id name).sent outcome
does s session draws outcome (Watches id result monitors) =
    sends_at_once (with_monitors session monitors s) (to_session session (reply_tree id result ∷ [])) outcome

-- The work, with the identifiers drawn for it and what is listed of it. If an allocation failed, at most as many were drawn
-- as are wanted, and the session is closed; else exactly as many were drawn, and the work is done.
abbrev pub works : State → ℕ → List Uuid → Option Outcome → Work → Option Stepped
works s session draws (Some NoMemory) work = when (nat_le (length draws) (draws_for work)) (Some (closed s session))
works s session draws outcome work = when (length draws == draws_for work) (does s session draws outcome work)

-- the work on a message is attempt 1 of its event
abbrev pub takes : State → Choice → ℕ → Message → Option Tried
takes s c session message = tries (λ outcome. works s session c.draws outcome (work_of s session message)) 1 c.outcomes

-- After an attempt that changed the database, the waiting transactions are tried: these are the attempts after it.
abbrev pub then_settles : Bool → Tried → Option Tried
then_settles false t = Some t
then_settles true t = option_map (λ p. (passes_after t.stepped.sent p).tried) (settle t.stepped.state 2 t.others)

-- the work on a message, and the tries that it leads to
abbrev pub takes_and_settles : State → Choice → ℕ → Message → Option Tried
takes_and_settles s c session message =
    option_and_then (then_settles (is_kept (listed 1 c.outcomes).outcome)) (takes s c session message)

-- the event, at a moment that is the state's
abbrev pub happens : State → Choice → Event → Option Stepped
happens s c Open = when (is_without_choice c) (Some (record { state = with_next_session s; sent = [] }))
happens s c (Take session message) = when (is_open s session) (ends (takes_and_settles s c session message))
happens s c (Close session cause) = when (is_without_choice c && is_open s session) (Some (closed s session))
happens s c Tick = when (none_drawn c) (ends (option_map (λ p. p.tried) (settle s 1 c.outcomes)))

-- the next state and what is sent, or None if the choice does not suit; the moment is not before the last one
abbrev pub step : State → Entry → Option Stepped
step s e = when (nat_le s.moment e.choice.moment) (happens (record s { moment = e.choice.moment }) e.choice e.event)
