-- The queues of locks in the states that a history leads to: they ascend, nobody stands in one twice, and all who do are open.
use Rattle.std.proofs.Common.{◌≡◌, ℕ, List, [], ◌∷◌, Bool, true, false, cond, eqb, leb, Option, Some, None, inl, inr, refl, sym, ap, subst, ◌∙◌}
use Rattle.std.specs.Prelude.{◌&&◌, ◌||◌, ◌-◌, codes, option_map, is_some, Result, Ok, Err}
use Rattle.std.specs.List.Sorted.{IsStrictlySortedBy}
use Rattle.std.specs.Str.{bytes_eq}
use Rattle.std.proofs.lemmas.Bool.{cases_Bool, false≢true}
use Rattle.std.proofs.lemmas.Option.{same_Some}
use Rattle.serde_json.specs.Data.{Data, Items, no_items, item}
use Rattle.serde_json.specs.Find.{as_str, as_object}
use Rattle.ov_specs.specs.locks.Queues.{Queues, DoQueuesAscend, LockCall, Lock, Steal, Unlock, HasNoRepeats, queue_of, leave, lock_name, owns, has_requested, requests_of, lock_limit, lock_refusal, call_refusal, after_call}
use Rattle.ov_specs.specs.machine.History.{run}
use Rattle.ov_specs.specs.machine.Machine.{State, Entry, Event, Open, Take, Close, Tick, Choice, Outcome, Attempt, Outstanding, Listed, listed, Stepped, Passed, Work, Answers, Transact, Cancels, Locks, Watches, work_of, cancel_notification, transact_call, transact_call_on, schema_call, schema_call_on, lock_call, lock_call_on, monitors_of, monitor_work, monitor_call, monitor_call_on, monitor_cancel_work, monitor_cancel_call, unless_refused, is_open, is_waiting, waiting_of, most_waiting, arrived, works, tries_again, closed, happens, takes_and_settles, settle, step, ends, is_without_choice, none_drawn, with_next_session, opening}
use Rattle.ov_specs.specs.monitors.Monitors.{Monitor, added, canceled}
use Rattle.ov_specs.specs.monitors.Requests.{MonitorFault}
use Rattle.ov_specs.specs.operations.Transaction.{TransactionOutcome, transaction}
use Rattle.ov_specs.specs.rows.Database.{Database}
use Rattle.ov_specs.specs.schema.SchemaTypes.{Schema}
use Rattle.ov_specs.specs.values.Uuid.{Uuid}
use Rattle.ov_specs.specs.wire.Message.{Message, Call, Notification, Answer, Bad}
use Rattle.ov_specs.proofs.laws.Histories.{run_parts}
use Rattle.ov_specs.proofs.laws.LockQueues.{leave-ascends}
use Rattle.ov_specs.proofs.laws.Locks.{call-ascends, HaveNoRepeats, queue-distinct, requested-passes, each-so, lock-once, steal-once, unlock-once, leave-once}
use Rattle.ov_specs.proofs.laws.Settling.{AreToOpen, StandOpen, StandInOrder, closed_within, all-any}
use Rattle.ov_specs.proofs.laws.Tries.{left_by, IsKeptByTries, settle_keeps, takes_first, tick_first}
use Rattle.ov_specs.proofs.laws.Turns.{is_open-more, stepped, take_within, tick_within}
use Rattle.ov_specs.proofs.laws.Works.{OfOutcome, when_is, try_has, work_has}

-- ---- what a message asks for

-- a lock is asked for, or given up, only if that is not refused
abbrev pub IsAllowed : State → ℕ → Work → Type 0
IsAllowed s n (Answers trees) = Unit {0}
IsAllowed s n (Transact id operations) = Unit {0}
IsAllowed s n (Cancels id) = Unit {0}
IsAllowed s n (Locks call id name) = call_refusal call name n s.queues ≡ None
IsAllowed s n (Watches id result monitors) = Unit {0}

module _ (s : State) (n : ℕ) where
  either : (b : Bool) (v w : Work) → IsAllowed s n v → IsAllowed s n w → IsAllowed s n (cond b v w)
  either true v w p q = p
  either false v w p q = q

  schema_allowed : (id : Data) (params : Items) → IsAllowed s n (schema_call s id params)
  schema_allowed id no_items = tt
  schema_allowed id (item d no_items) = by (as_str d)
    where
      by : (o : Option (List ℕ)) → IsAllowed s n (schema_call_on s id o)
      by None = tt
      by (Some name) = either (bytes_eq name s.schema.name) _ _ tt tt
  schema_allowed id (item d (item e items)) = tt

  transact_allowed : (id : Data) (params : Items) → IsAllowed s n (transact_call s n id params)
  transact_allowed id no_items = tt
  transact_allowed id (item d operations) = by (as_str d)
    where
      by : (o : Option (List ℕ)) → IsAllowed s n (transact_call_on s n id o operations)
      by None = tt
      by (Some name) = either (bytes_eq name s.schema.name) _ _ (either (is_waiting s n id) _ _ tt (either (leb most_waiting (waiting_of n s)) _ _ tt tt)) tt

  lock_allowed : (id : Data) (call : LockCall) (params : Items) → IsAllowed s n (lock_call s n id call params)
  lock_allowed id call no_items = tt
  lock_allowed id call (item d no_items) = by (lock_name (as_str d))
    where
      unless : (name : List ℕ) (o : Option (List ℕ)) → call_refusal call name n s.queues ≡ o → IsAllowed s n (unless_refused id o (Locks call id name))
      unless name None is = is
      unless name (Some text) is = tt

      by : (o : Option (List ℕ)) → IsAllowed s n (lock_call_on s n id call o)
      by None = tt
      by (Some name) = unless name (call_refusal call name n s.queues) refl
  lock_allowed id call (item d (item e items)) = tt

  monitor_allowed : (id : Data) (params : Items) → IsAllowed s n (monitor_call s n id params)
  monitor_allowed id no_items = tt
  monitor_allowed id (item d no_items) = tt
  monitor_allowed id (item d (item name no_items)) = tt
  monitor_allowed id (item d (item name (item requests no_items))) = either (is_some (as_object requests)) _ _ (by (as_str d)) tt
    where
      watch : (r : Result (List Monitor) MonitorFault) → IsAllowed s n (monitor_work s id name r)
      watch (Ok monitors) = tt
      watch (Err fault) = tt

      by : (o : Option (List ℕ)) → IsAllowed s n (monitor_call_on s n id o name requests)
      by None = tt
      by (Some database) = either (bytes_eq database s.schema.name) _ _ (watch (added s.schema (monitors_of n s) name requests)) tt
  monitor_allowed id (item d (item name (item requests (item e items)))) = tt

  monitor_cancel_allowed : (id : Data) (params : Items) → IsAllowed s n (monitor_cancel_call s n id params)
  monitor_cancel_allowed id no_items = tt
  monitor_cancel_allowed id (item name no_items) = watch (canceled (monitors_of n s) name)
    where
      watch : (r : Result (List Monitor) MonitorFault) → IsAllowed s n (monitor_cancel_work id r)
      watch (Ok monitors) = tt
      watch (Err fault) = tt
  monitor_cancel_allowed id (item name (item d items)) = tt

  cancel_allowed : (params : Items) → IsAllowed s n (cancel_notification s n params)
  cancel_allowed no_items = tt
  cancel_allowed (item id no_items) = either (is_waiting s n id) _ _ tt tt
  cancel_allowed (item id (item d items)) = tt

  pub work_allowed : (message : Message) → IsAllowed s n (work_of s n message)
  work_allowed (Call id method params) =
      either (bytes_eq method (codes "list_dbs")) _ _ tt
      (either (bytes_eq method (codes "get_schema")) _ _ (schema_allowed id params)
      (either (bytes_eq method (codes "transact")) _ _ (transact_allowed id params)
      (either (bytes_eq method (codes "echo")) _ _ tt
      (either (bytes_eq method (codes "lock")) _ _ (lock_allowed id Lock params)
      (either (bytes_eq method (codes "steal")) _ _ (lock_allowed id Steal params)
      (either (bytes_eq method (codes "unlock")) _ _ (lock_allowed id Unlock params)
      (either (bytes_eq method (codes "monitor")) _ _ (monitor_allowed id params)
      (either (bytes_eq method (codes "monitor_cancel")) _ _ (monitor_cancel_allowed id params) tt))))))))
  work_allowed (Notification method params) = either (bytes_eq method (codes "cancel")) _ _ (cancel_allowed params) tt
  work_allowed Answer = tt
  work_allowed (Bad id kind) = tt

-- ---- the queues ascend, and nobody stands in one twice

-- a lock that is not refused was not asked for
not_requested : (name : List ℕ) (n : ℕ) (queues : Queues) → lock_refusal name n queues ≡ None → has_requested n name queues ≡ false
not_requested name n queues h = by (has_requested n name queues) h
  where
    by : (b : Bool) → cond b (Some (codes "lock already requested")) (cond (leb lock_limit (requests_of n queues)) (Some (codes "resources exhausted")) None) ≡ None → b ≡ false
    by true h = cc
    by false h = refl

-- they ascend, and nobody stands in one twice
abbrev Once : Queues → Type 0
Once queues = DoQueuesAscend queues × HaveNoRepeats queues

leaves_once : (n : ℕ) (queues : Queues) → Once queues → Once (leave n queues)
leaves_once n queues once = (leave-ascends n queues once.0, leave-once n queues once.1)

call_once : (call : LockCall) (name : List ℕ) (n : ℕ) (queues : Queues) → Once queues → call_refusal call name n queues ≡ None → Once (after_call call name n queues)
call_once Lock name n queues once may = (call-ascends Lock name n queues once.0, lock-once name n queues once.1 (not_requested name n queues may))
call_once Steal name n queues once may = (call-ascends Steal name n queues once.0, steal-once name n queues once.1 (not_requested name n queues may))
call_once Unlock name n queues once may = (call-ascends Unlock name n queues once.0, unlock-once name n queues once.1)

-- in the state that a step leads to
abbrev Leads : Bool → Stepped → Type 0
Leads own x = Once x.state.queues

outcome_once : (s : State) (o : Outstanding) (r : TransactionOutcome) → Once s.queues → OfOutcome Leads s o r
outcome_once s o r once = record { sends = λ trees. once; commits = λ results database is. (once, once); waits = λ timeout is. once }

work_once : (s : State) (n : ℕ) (draws : List Uuid) (o : Option Outcome) (message : Message) (t : Stepped) → Once s.queues → works s n draws o (work_of s n message) ≡ Some t → Once t.state.queues
work_once s n draws o message t once h =
    work_has Leads s n draws o (work_of s n message) t (record {
      closes = leaves_once n s.queues once;
      sends = λ trees. once;
      transacts = λ id operations is. outcome_once s (arrived s n id draws operations) (transaction s.schema s.database (owns s.queues n) draws 0 operations) once;
      cancels = λ id is. once;
      locks = λ call id name is. call_once call name n s.queues once (subst (IsAllowed s n) is (work_allowed s n message));
      watches = λ id result monitors is. once;
    }) h

try_once : (s : State) (o : Outstanding) (outcome : Option Outcome) (t : Stepped) → Once s.queues → tries_again s o outcome ≡ Some t → Once t.state.queues
try_once s o outcome t once h =
    try_has Leads s o outcome t (leaves_once o.session s.queues once) (outcome_once s o (transaction s.schema s.database (owns s.queues o.session) o.draws (s.moment - o.arrival) o.operations) once) h

settle_once : (s : State) (number : ℕ) (attempts : List Attempt) (p : Passed) → Once s.queues → settle s number attempts ≡ Some p → Once (left_by p).queues
settle_once s number attempts p once h = settle_keeps (λ t sent. Once t.queues) (λ o. true) kept s number attempts p once h
  where
    kept : IsKeptByTries (λ t sent. Once t.queues) (λ o. true)
    kept = record {
      aside = λ t sent h. (h, all-any t.outstanding);
      back = λ t sent waiting h all. h;
      tries = λ t sent o outcome u h all there again. try_once t o outcome u h again;
    }

take_once : (s : State) (c : Choice) (n : ℕ) (message : Message) (t : Stepped) → Once s.queues → ends (takes_and_settles s c n message) ≡ Some t → Once t.state.queues
take_once s c n message t once h =
    let x = takes_first s c n message t h in
    let own : Listed = listed 1 c.outcomes in
    let first = work_once s n c.draws own.outcome message x.first once x.work in
    elim x.goes_on [
      | inl (not_kept, same) ↦ subst (Leads true) same first
      | inr (kept, p, settled, same) ↦ subst (Leads true) same (settle_once x.first.state 2 own.others p first settled)
    ]

happens_once : (s : State) (c : Choice) (what : Event) (t : Stepped) → Once s.queues → happens s c what ≡ Some t → Once t.state.queues
happens_once s c Open t once h =
    let x : Stepped = record { state = with_next_session s; sent = [] } in
    subst (Leads true) (same_Some x t (when_is (is_without_choice c) (Some x) t h)) once
happens_once s c (Take n message) t once h = take_once s c n message t once (when_is (is_open s n) (ends (takes_and_settles s c n message)) t h)
happens_once s c (Close n cause) t once h = subst (Leads true) (same_Some (closed s n) t (when_is (is_without_choice c && is_open s n) (Some (closed s n)) t h)) (leaves_once n s.queues once)
happens_once s c Tick t once h =
    let (p, settled, same) = tick_first s c t (when_is (none_drawn c) (ends (option_map (λ p. p.tried) (settle s 1 c.outcomes))) t h) in
    subst (Leads true) same (settle_once s 1 c.outcomes p once settled)

-- ---- who stands in a queue is open

stand_open : (s : State) (e : Entry) (t : Stepped) → step s e ≡ Some t → StandInOrder s → (what : Event) → e.event ≡ what → StandOpen t.state
stand_open s e t h stand Open is =
    let x : Stepped = record { state = with_next_session (record s { moment = e.choice.moment }); sent = [] } in
    let same : x ≡ t = same_Some x t (when_is (is_without_choice e.choice) (Some x) t (stepped s e t Open is h)) in
    subst (λ (v : Stepped). StandOpen v.state) same (each-so (is_open s) (is_open x.state) (λ n there. is_open-more s n ∙ ap (λ b. b || eqb s.next n) there) s.queues stand.1)
stand_open s e t h stand (Take n message) is = ((take_within s e t h n message is).1 stand).0.1
stand_open s e t h stand (Close n cause) is =
    let now : State = record s { moment = e.choice.moment } in
    subst (λ (v : Stepped). StandOpen v.state) (same_Some (closed now n) t (when_is (is_without_choice e.choice && is_open s n) (Some (closed now n)) t (stepped s e t (Close n cause) is h))) ((closed_within now n).1 stand).0.1
stand_open s e t h stand Tick is = ((tick_within s e t h is).1 stand).0.1

-- ---- steps and runs

-- the queues are in order
abbrev pub InOrder : State → Type 0
InOrder s = Once s.queues × StandOpen s

pub step_in_order : (s : State) (e : Entry) (t : Stepped) → step s e ≡ Some t → InOrder s → InOrder t.state
step_in_order s e t h order =
    let now : State = record s { moment = e.choice.moment } in
    (happens_once now e.choice e.event t order.0 (when_is (leb s.moment e.choice.moment) (happens now e.choice e.event) t h), stand_open s e t h (order.0.0, order.1) e.event refl)

pub run_in_order : (s : State) (history : List Entry) (t : Stepped) → run s history ≡ Some t → InOrder s → InOrder t.state
run_in_order s [] t h order = subst (λ (v : Stepped). InOrder v.state) (same_Some (record { state = s; sent = [] }) t h) order
run_in_order s (e ∷ history) t h order =
    let parts = run_parts s e history t h in
    subst InOrder parts.state (run_in_order parts.first.state history parts.rest parts.runs (step_in_order s e parts.first parts.stepped order))

-- what a step sends, it sends to sessions that are open before it
pub step_sends_open : (s : State) (e : Entry) (t : Stepped) → step s e ≡ Some t → InOrder s → AreToOpen s t.sent
step_sends_open s e t h order = by e.event refl
  where
    by : (what : Event) → e.event ≡ what → AreToOpen s t.sent
    by Open is =
        let x : Stepped = record { state = with_next_session (record s { moment = e.choice.moment }); sent = [] } in
        subst (λ (v : Stepped). AreToOpen s v.sent) (same_Some x t (when_is (is_without_choice e.choice) (Some x) t (stepped s e t Open is h))) refl
    by (Take n message) is = ((take_within s e t h n message is).1 (order.0.0, order.1)).1
    by (Close n cause) is =
        let now : State = record s { moment = e.choice.moment } in
        subst (λ (v : Stepped). AreToOpen s v.sent) (same_Some (closed now n) t (when_is (is_without_choice e.choice && is_open s n) (Some (closed now n)) t (stepped s e t (Close n cause) is h))) ((closed_within now n).1 (order.0.0, order.1)).1
    by Tick is = ((tick_within s e t h is).1 (order.0.0, order.1)).1

-- ---- from an opening on

sorted_none : DoQueuesAscend []
unfolding IsStrictlySortedBy
sorted_none = tt

module _ (schema : Schema) (database : Database) (history : List Entry) (t : Stepped) (h : run (opening schema database) history ≡ Some t) where
  order : InOrder t.state
  order = run_in_order (opening schema database) history t h ((sorted_none, tt), tt)

  -- what the next step sends, it sends to sessions that are open before it
  pub sent_to_open : (e : Entry) (u : Stepped) → step t.state e ≡ Some u → AreToOpen t.state u.sent
  sent_to_open e u k = step_sends_open t.state e u k order

  pub queues_ascend : DoQueuesAscend t.state.queues
  queues_ascend = order.0.0

  pub nobody_twice : (name : List ℕ) → HasNoRepeats (queue_of name t.state.queues)
  nobody_twice name = queue-distinct name t.state.queues order.0.1

  pub closed_stand_nowhere : (session : ℕ) (name : List ℕ) → is_open t.state session ≡ false → has_requested session name t.state.queues ≡ false
  closed_stand_nowhere session name away = elim (cases_Bool (has_requested session name t.state.queues)) [
    | inl stands ↦ absurd (false≢true (sym away ∙ requested-passes (is_open t.state) session name t.state.queues order.1 stands))
    | inr out ↦ out
  ]
