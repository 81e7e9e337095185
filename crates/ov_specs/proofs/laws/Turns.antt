-- What one entry makes of one session.
use Rattle.std.proofs.Common.{◌≡◌, ◌≢◌, ℕ, ◌+◌, List, [], ◌∷◌, ◌++◌, refl, sym, ap, subst, ◌∙◌, cond, eqb, leb, Bool, true, false, Option, Some, None, ◌⊎◌, inl, inr}
use Rattle.std.specs.Prelude.{not, ◌||◌, ◌&&◌, filter, option_map, option_to_list, codes}
use Rattle.std.specs.List.{list_any, list_all}
use Rattle.std.proofs.lemmas.List.Folds.{list_any-append, list_all-append}
use Rattle.std.proofs.lemmas.Map.Views.{any-filter_same}
use Rattle.std.proofs.lemmas.Bool.{cases_Bool, eq-eqb, eqb-true, ne_eqb, not_from_true, not_from_false, and_parts, and_from}
use Rattle.ov_specs.specs.wire.Message.{Message}
use Rattle.ov_specs.specs.values.Uuid.{Uuid}
use Rattle.serde_json.specs.Data.{Data}
use Rattle.ov_specs.specs.locks.Queues.{LockCall, owns, call_result, told_of_call}
use Rattle.ov_specs.specs.machine.Machine.{State, Entry, Event, Open, Take, Close, Tick, Cause, Memory, Outcome, Attempt, Listed, listed, tries, ends, Session, Stepped, step, happens, takes_and_settles, settle, to_session, told, closed, locks, when, is_open, is_without_choice, none_drawn, with_next_session, session_watching, with_monitors, without_request, none_listed, arrived, Work, work_of, works}
use Rattle.ov_specs.specs.machine.History.{taken_by, cause_in, closing_cause}
use Rattle.ov_specs.specs.monitors.Monitors.{Monitor}
use Rattle.ov_specs.specs.operations.Transaction.{transaction}
use Rattle.ov_specs.specs.wire.Frame.{reply_tree, failure_tree}
use Rattle.ov_specs.proofs.laws.Lists.{any-map}
use Rattle.ov_specs.proofs.laws.Locks.{call-ascends, each-so, after-passes, call-passes}
use Rattle.ov_specs.proofs.laws.Settling.{IsNoMore, IsWithin, no_more-same, to_open, told_open, closed_within, within-then, outcome_within, settle_within_open}
use Rattle.ov_specs.proofs.laws.Tries.{left_by, sent_by, takes_first, tick_first}
use Rattle.ov_specs.proofs.laws.Truths.{or_nothing}
use Rattle.ov_specs.proofs.laws.Works.{watching, when_is, when_suits, work_has}
use Rattle.std.proofs.lemmas.Option.{same_Some}

-- ---- the open sessions

-- one session more
any_push : (n x : ℕ) (xs : List Session) → list_any (λ k. eqb k.serial n) (xs ++ record { serial = x; monitors = [] } ∷ []) ≡ (list_any (λ k. eqb k.serial n) xs || eqb x n)
any_push n x xs = list_any-append (λ (k : Session). eqb k.serial n) xs (record { serial = x; monitors = [] } ∷ []) ∙ ap (λ b. list_any (λ (k : Session). eqb k.serial n) xs || b) (or_nothing (eqb x n))

pub is_open-more : (s : State) (n : ℕ) → is_open (with_next_session s) n ≡ (is_open s n || eqb s.next n)
is_open-more s n = any_push n s.next s.sessions

-- a session that was taken out is not among them
none_left : (n : ℕ) (xs : List Session) → list_any (λ k. eqb k.serial n) (filter (λ k. not (eqb k.serial n)) xs) ≡ false
none_left n xs = any-filter_same (λ (k : Session). eqb k.serial n) (λ k. not (eqb k.serial n)) false (λ k e. not_from_true (eqb k.serial n) e) xs

-- the others stay
others_left : (n m : ℕ) (xs : List Session) → m ≢ n → list_any (λ k. eqb k.serial n) (filter (λ k. not (eqb k.serial m)) xs) ≡ list_any (λ k. eqb k.serial n) xs
others_left n m xs ne =
    any-filter_same (λ (k : Session). eqb k.serial n) (λ k. not (eqb k.serial m)) true (λ k e. not_from_false (eqb k.serial m) (ne_eqb k.serial m (λ same. ne (sym same ∙ eqb-true k.serial n e)))) xs

-- other monitors of a session change nothing of who is open
pub same_open : (s : State) (m : ℕ) (monitors : List Monitor) (n : ℕ) → is_open (with_monitors m monitors s) n ≡ is_open s n
same_open s m monitors n = any-map (λ (k : Session). eqb k.serial n) (session_watching m monitors) s.sessions

-- ---- causes

-- a session that stays as it was has none
no_cause_same : (n : ℕ) (s t : State) (what : Event) → is_open t n ≡ is_open s n → closing_cause n s what t ≡ None
no_cause_same n s t what same = ap (λ b. cond (is_open s n && not b) (Some (cause_in n what)) None) same ∙ never (is_open s n)
  where
    never : (b : Bool) → cond (b && not b) (Some (cause_in n what)) None ≡ None
    never true = refl
    never false = refl

-- one that may be opened has none
no_cause_more : (n : ℕ) (s t : State) (what : Event) (c : Bool) → is_open t n ≡ (is_open s n || c) → closing_cause n s what t ≡ None
no_cause_more n s t what c more = ap (λ b. cond (is_open s n && not b) (Some (cause_in n what)) None) more ∙ never (is_open s n)
  where
    never : (b : Bool) → cond (b && not (b || c)) (Some (cause_in n what)) None ≡ None
    never true = refl
    never false = refl

-- one that is open before and not after has that of the event
pub cause_shut : (n : ℕ) (s t : State) (what : Event) → is_open s n ≡ true → is_open t n ≡ false → closing_cause n s what t ≡ Some (cause_in n what)
cause_shut n s t what there away = ap (λ b. cond (b && not (is_open t n)) (Some (cause_in n what)) None) there ∙ ap (λ b. cond (not b) (Some (cause_in n what)) None) away

-- ---- one step

-- an attempt after which nothing is tried
pub ends_tries : (attempt : Option Outcome → Option Stepped) (number : ℕ) (attempts : List Attempt) → ends (tries attempt number attempts) ≡ when (none_listed (listed number attempts).others) (attempt (listed number attempts).outcome)
ends_tries attempt number attempts = by (attempt (listed number attempts).outcome)
  where
    none : (b : Bool) → None ≡ when {A = Stepped} b None
    none true = refl
    none false = refl

    by : (o : Option Stepped) → ends (option_map (λ t. record { stepped = t; others = (listed number attempts).others }) o) ≡ when (none_listed (listed number attempts).others) o
    by None = none (none_listed (listed number attempts).others)
    by (Some t) = refl

-- the state at the moment of the entry
abbrev now : State → Entry → State
now s e = record s { moment = e.choice.moment }

-- a step is what the event makes happen
pub stepped : (s : State) (e : Entry) (t : Stepped) (what : Event) → e.event ≡ what → step s e ≡ Some t → happens (now s e) e.choice what ≡ Some t
stepped s e t what is h = when_is (leb s.moment e.choice.moment) (happens (now s e) e.choice what) t (sym (ap (λ v. when (leb s.moment e.choice.moment) (happens (now s e) e.choice v)) is) ∙ h)

-- what is seen of a session after an entry: whether it is open, the serial of the next one, what the entry took of it, and
-- why the entry closed it
pub record SessionAfter : Type 0 where
  pub goes_on : Bool
  pub next : ℕ
  pub taken : List Message
  pub cause : Option Cause

abbrev pub session_after : Bool → ℕ → List Message → Option Cause → SessionAfter
session_after goes_on next taken cause = record { goes_on = goes_on; next = next; taken = taken; cause = cause }

-- an entry makes this of a session
pub record Turn (n : ℕ) (s : State) (e : Entry) (t : State) (after : SessionAfter) : Type 0 where
  pub open_is : is_open t n ≡ after.goes_on
  pub next_is : t.next ≡ after.next
  pub taken_is : taken_by n e.event ≡ after.taken
  pub cause_is : closing_cause n s e.event t ≡ after.cause

module _ (n : ℕ) (s : State) (e : Entry) (t : Stepped) (h : step s e ≡ Some t) where
  -- a session opens
  pub turn_open : e.event ≡ Open → Turn n s e t.state (session_after (is_open s n || eqb s.next n) (s.next + 1) [] None)
  turn_open is =
      let k = stepped s e t Open is h in
      let x : Stepped = record { state = with_next_session (now s e); sent = [] } in
      let same : x ≡ t = same_Some x t (when_is (is_without_choice e.choice) (Some x) t k) in
      let open_is : is_open t.state n ≡ (is_open s n || eqb s.next n) = ap (λ (v : Stepped). is_open v.state n) (sym same) ∙ any_push n s.next s.sessions in
      record {
        open_is = open_is;
        next_is = ap (λ (v : Stepped). v.state.next) (sym same);
        taken_is = ap (taken_by n) is;
        cause_is = no_cause_more n s t.state e.event (eqb s.next n) open_is;
      }

  -- what a session is closed to
  after_close : (m : ℕ) (cause : Cause) → e.event ≡ Close m cause → closed (now s e) m ≡ t
  after_close m cause is = same_Some (closed (now s e) m) t (when_is (is_without_choice e.choice && is_open s m) (Some (closed (now s e) m)) t (stepped s e t (Close m cause) is h))

  -- it was open before
  open_to_close : (m : ℕ) (cause : Cause) → e.event ≡ Close m cause → is_open s m ≡ true
  open_to_close m cause is =
      (and_parts (is_without_choice e.choice) (is_open s m) (when_suits (is_without_choice e.choice && is_open s m) (Some (closed (now s e) m)) t (stepped s e t (Close m cause) is h))).1

  -- the session is closed
  pub turn_close : (cause : Cause) → e.event ≡ Close n cause → Turn n s e t.state (session_after false s.next [] (Some cause))
  turn_close cause is =
      let same : closed (now s e) n ≡ t = after_close n cause is in
      let own : eqb n n ≡ true = eq-eqb n n refl in
      let open_is : is_open t.state n ≡ false = ap (λ (v : Stepped). is_open v.state n) (sym same) ∙ none_left n s.sessions in
      record {
        open_is = open_is;
        next_is = ap (λ (v : Stepped). v.state.next) (sym same);
        taken_is = ap (taken_by n) is;
        cause_is = cause_shut n s t.state e.event (open_to_close n cause is) open_is ∙ ap (λ c. Some c) (ap (cause_in n) is ∙ ap (λ b. cond b cause Memory) own);
      }

  -- another session is closed
  pub turn_close_other : (m : ℕ) (cause : Cause) → m ≢ n → e.event ≡ Close m cause → Turn n s e t.state (session_after (is_open s n) s.next [] None)
  turn_close_other m cause ne is =
      let same : closed (now s e) m ≡ t = after_close m cause is in
      let open_is : is_open t.state n ≡ is_open s n = ap (λ (v : Stepped). is_open v.state n) (sym same) ∙ others_left n m s.sessions ne in
      record {
        open_is = open_is;
        next_is = ap (λ (v : Stepped). v.state.next) (sym same);
        taken_is = ap (taken_by n) is;
        cause_is = no_cause_same n s t.state e.event open_is;
      }

-- ---- work and tries

-- What an entry that takes these messages of a session makes of it: it goes on, or it was open and is closed because an
-- allocation failed.
abbrev pub MayClose : ℕ → State → Entry → Stepped → List Message → Type 0
MayClose n s e t taken =
    Turn n s e t.state (session_after (is_open s n) s.next taken None)
    ⊎ ((is_open s n ≡ true) × Turn n s e t.state (session_after false s.next taken (Some Memory)))

-- if no session is opened
may_close : (n : ℕ) (s : State) (e : Entry) (t : Stepped) (taken : List Message) → taken_by n e.event ≡ taken → cause_in n e.event ≡ Memory → IsNoMore (now s e) t.state → MayClose n s e t taken
may_close n s e t taken taken_is cause no_more = elim (cases_Bool (is_open t.state n)) [
  | inl there ↦
      let open_is : is_open t.state n ≡ is_open s n = there ∙ sym (no_more.still_open n there) in
      inl (record { open_is = open_is; next_is = no_more.next; taken_is = taken_is; cause_is = no_cause_same n s t.state e.event open_is })
  | inr away ↦ elim (cases_Bool (is_open s n)) [
    | inl was ↦ inr (was, record { open_is = away; next_is = no_more.next; taken_is = taken_is; cause_is = cause_shut n s t.state e.event was away ∙ ap (λ c. Some c) cause })
    | inr was_not ↦
        let open_is : is_open t.state n ≡ is_open s n = away ∙ sym was_not in
        inl (record { open_is = open_is; next_is = no_more.next; taken_is = taken_is; cause_is = no_cause_same n s t.state e.event open_is })
  ]
]

-- a session asks for a lock, or gives one up
locks_within : (s : State) (m : ℕ) → is_open s m ≡ true → (call : LockCall) (id : Data) (name : List ℕ) → IsWithin s (locks s m call id name).state (locks s m call id name).sent
locks_within s m there call id name = (
  no_more-same s (locks s m call id name).state refl refl refl refl,
  λ stand. (
    (call-ascends call name m s.queues stand.0, after-passes (is_open s) m name s.queues stand.1 call there),
    list_all-append (λ x. is_open s x.session) (to_session m (reply ∷ [])) (told notifications)
        ∙ and_from (list_all (λ x. is_open s x.session) (to_session m (reply ∷ []))) (list_all (λ x. is_open s x.session) (told notifications)) (to_open s m (reply ∷ []) there) (told_open s notifications (call-passes (is_open s) m name s.queues stand.1 call)),
  ),
)
  where
    reply : Data
    reply = reply_tree id (call_result call name s.queues)

    notifications : List (ℕ × Data)
    notifications = option_to_list (told_of_call call name m s.queues)

-- and has other monitors
watching_within : (s : State) (m : ℕ) → is_open s m ≡ true → (id result : Data) (monitors : List Monitor) → IsWithin s (watching s m id result monitors).state (watching s m id result monitors).sent
watching_within s m there id result monitors =
    let same : (n : ℕ) → is_open (with_monitors m monitors s) n ≡ is_open s n = λ n. same_open s m monitors n in (
      record { schema = refl; moment = refl; next = refl; still_open = λ n open'. sym (same n) ∙ open' },
      λ stand.
          ((stand.0, each-so (is_open s) (is_open (with_monitors m monitors s)) (λ n open'. same n ∙ open') s.queues stand.1), to_open s m (reply_tree id result ∷ []) there),
    )

-- the work on a message of an open session
work_within : (s : State) (m : ℕ) (draws : List Uuid) (o : Option Outcome) (w : Work) (t : Stepped) → is_open s m ≡ true → works s m draws o w ≡ Some t → IsWithin s t.state t.sent
work_within s m draws o w t there h =
    work_has (λ kept x. IsWithin s x.state x.sent) s m draws o w t (record {
      closes = closed_within s m;
      sends = λ trees. (no_more-same s s refl refl refl refl, λ stand. (stand, to_open s m trees there));
      transacts = λ id operations is. outcome_within s (arrived s m id draws operations) (transaction s.schema s.database (owns s.queues m) draws 0 operations) there;
      cancels = λ id is. (no_more-same s (without_request m id s) refl refl refl refl, λ stand. (stand, to_open s m (failure_tree id (codes "canceled") ∷ []) there));
      locks = λ call id name is. locks_within s m there call id name;
      watches = λ id result monitors is. watching_within s m there id result monitors;
    }) h

module _ (s : State) (e : Entry) (t : Stepped) (h : step s e ≡ Some t) where
  -- it is open before
  pub open_to_take : (m : ℕ) (message : Message) → e.event ≡ Take m message → is_open s m ≡ true
  open_to_take m message is = when_suits (is_open s m) (ends (takes_and_settles (now s e) e.choice m message)) t (stepped s e t (Take m message) is h)

  -- the work on a message, and the tries after it, open no session, and send to sessions that were open
  pub take_within : (m : ℕ) (message : Message) → e.event ≡ Take m message → IsWithin (now s e) t.state t.sent
  take_within m message is =
      let x = takes_first (now s e) e.choice m message t (when_is (is_open s m) (ends (takes_and_settles (now s e) e.choice m message)) t (stepped s e t (Take m message) is h)) in
      let own : Listed = listed 1 e.choice.outcomes in
      let first : IsWithin (now s e) x.first.state x.first.sent = work_within (now s e) m e.choice.draws own.outcome (work_of (now s e) m message) x.first (open_to_take m message is) x.work in
      elim x.goes_on [
        | inl (not_kept, same) ↦ subst (λ (v : Stepped). IsWithin (now s e) v.state v.sent) same first
        | inr (kept, p, settled, same) ↦
            subst (λ (v : Stepped). IsWithin (now s e) v.state v.sent) same
            (within-then (now s e) x.first.state (left_by p) x.first.sent (sent_by p) first (settle_within_open x.first.state 2 own.others p settled))
      ]

  -- nor does settling as time passes
  pub tick_within : e.event ≡ Tick → IsWithin (now s e) t.state t.sent
  tick_within is =
      let k = when_is (none_drawn e.choice) (ends (option_map (λ p. p.tried) (settle (now s e) 1 e.choice.outcomes))) t (stepped s e t Tick is h) in
      let (p, settled, same) = tick_first (now s e) e.choice t k in
      subst (λ (v : Stepped). IsWithin (now s e) v.state v.sent) same (settle_within_open (now s e) 1 e.choice.outcomes p settled)

module _ (n : ℕ) (s : State) (e : Entry) (t : Stepped) (h : step s e ≡ Some t) where
  -- time passes, and may close the session of a transaction that waits
  pub turn_tick : e.event ≡ Tick → MayClose n s e t []
  turn_tick is = may_close n s e t [] (ap (taken_by n) is) (ap (cause_in n) is) (tick_within s e t h is).0

  -- a message of the session is taken, and may close it
  pub turn_take : (message : Message) → e.event ≡ Take n message → MayClose n s e t (message ∷ [])
  turn_take message is =
      let taken : taken_by n e.event ≡ message ∷ [] = ap (taken_by n) is ∙ ap (λ b. cond b (message ∷ []) []) (eq-eqb n n refl) in
      may_close n s e t (message ∷ []) taken (ap (cause_in n) is) (take_within s e t h n message is).0

  -- a message of another session is taken, and may close this one too, if a transaction of it waits
  pub turn_take_other : (m : ℕ) (message : Message) → m ≢ n → e.event ≡ Take m message → MayClose n s e t []
  turn_take_other m message ne is =
      let taken : taken_by n e.event ≡ [] = ap (taken_by n) is ∙ ap (λ b. cond b (message ∷ []) []) (ne_eqb m n ne) in
      may_close n s e t [] taken (ap (cause_in n) is) (take_within s e t h m message is).0
