-- What a history does to sessions that are not open.
use Rattle.std.proofs.Common.{◌≡◌, ◌≢◌, ℕ, ◌≤◌, List, [], ◌∷◌, ◌++◌, refl, sym, ap, ◌∙◌, Bool, true, false, Option, Some, None, inl, inr, arith}
use Rattle.std.specs.Prelude.{◌&&◌}
use Rattle.std.specs.List.{list_all}
use Rattle.std.specs.List.Sorted.{IsStrictlySortedBy}
use Rattle.std.proofs.lemmas.Bool.{cases_eq, and_parts, ne_eqb, false≢true}
use Rattle.ov_specs.specs.locks.Queues.{DoQueuesAscend}
use Rattle.ov_specs.specs.wire.Message.{Message}
use Rattle.ov_specs.specs.machine.Machine.{State, Entry, Event, Open, Take, Close, Tick, Cause, Sent, Stepped, step, closed, when, is_open, is_without_choice, opening}
use Rattle.ov_specs.specs.rows.Database.{Database}
use Rattle.ov_specs.specs.schema.SchemaTypes.{Schema}
use Rattle.ov_specs.specs.machine.History.{run, frames_to, closing_cause, closed_by}
use Rattle.std.specs.Option.{option_or}
use Rattle.ov_specs.proofs.laws.Histories.{run_parts, closed_by_first}
use Rattle.ov_specs.proofs.laws.Queueing.{InOrder, step_in_order, step_sends_open}
use Rattle.ov_specs.proofs.laws.Turns.{MayClose, turn_open, turn_tick, turn_close, turn_close_other, turn_take, turn_take_other, stepped}
use Rattle.ov_outbox.proofs.Answered.{frames_to-append}
use Rattle.ov_specs.proofs.laws.Leaves.{leaving_silent}
use Rattle.std.proofs.lemmas.Option.{same_Some}

-- ---- what a step sends

-- a choice that suits
suits : {A : Type 0} (b : Bool) (o : Option A) (x : A) → when b o ≡ Some x → (b ≡ true) × (o ≡ Some x)
suits true o x h = (refl, h)
suits false o x h = cc

-- the state at the moment of the entry
abbrev now : State → Entry → State
now s e = record s { moment = e.choice.moment }

-- if all is sent to open sessions, one that is not open is sent nothing
none_sent : (s : State) (n : ℕ) (sent : List Sent) → list_all (λ x. is_open s x.session) sent ≡ true → is_open s n ≡ false → frames_to n sent ≡ []
none_sent s n [] to_open away = refl
none_sent s n (x ∷ sent) to_open away =
    let parts = and_parts (is_open s x.session) (list_all (λ y. is_open s y.session) sent) to_open in
    let other : x.session ≢ n = λ same. false≢true (sym away ∙ (ap (is_open s) (sym same) ∙ parts.0)) in
    rw (ne_eqb x.session n other) (none_sent s n sent parts.1 away)

module _ (s : State) (e : Entry) (t : Stepped) (h : step s e ≡ Some t) where
  -- what a closing makes, of an open session
  closing_makes : (m : ℕ) (cause : Cause) → e.event ≡ Close m cause → ((is_without_choice e.choice && is_open s m) ≡ true) × (Some (closed (now s e) m) ≡ Some t)
  closing_makes m cause is = suits (is_without_choice e.choice && is_open s m) (Some (closed (now s e) m)) t (stepped s e t (Close m cause) is h)

  -- a closing sends its session nothing
  pub close_spares : (m : ℕ) (cause : Cause) → e.event ≡ Close m cause → frames_to m t.sent ≡ []
  close_spares m cause is = ap (λ (v : Stepped). frames_to m v.sent) (sym (same_Some (closed (now s e) m) t (closing_makes m cause is).1)) ∙ leaving_silent m s.queues

  -- an open session is closed
  pub close_of_open : (m : ℕ) (cause : Cause) → e.event ≡ Close m cause → is_open s m ≡ true
  close_of_open m cause is = (and_parts (is_without_choice e.choice) (is_open s m) (closing_makes m cause is).0).1

-- one that is not open is sent nothing by a step
pub away_silent : (n : ℕ) (s : State) (e : Entry) (t : Stepped) → step s e ≡ Some t → InOrder s → is_open s n ≡ false → frames_to n t.sent ≡ []
away_silent n s e t h order away = none_sent s n t.sent (step_sends_open s e t h order) away

-- ---- a session that is still to come

-- A session whose serial is still to come is not open. Sessions that are notified of locks are open, since the queues are in
-- order.
pub record ToCome (n : ℕ) (s : State) : Type 0 where
  pub away : s.next ≤ n → is_open s n ≡ false
  pub order : InOrder s

-- What a step leaves of a session that may be still to come. If it still is after the step, nothing was done to it.
pub record Awaits (n : ℕ) (s : State) (e : Entry) (t : Stepped) : Type 0 where
  pub grows : s.next ≤ t.state.next
  pub to_come : ToCome n t.state
  pub silent : s.next ≤ n → frames_to n t.sent ≡ []
  pub no_cause : s.next ≤ n → closing_cause n s e.event t.state ≡ None

module _ (n : ℕ) (s : State) (e : Entry) (t : Stepped) (h : step s e ≡ Some t) (to_come : ToCome n s) where
  -- by what becomes of the session, and by what closes it
  awaits : s.next ≤ t.state.next → (t.state.next ≤ n → is_open t.state n ≡ false) → (s.next ≤ n → closing_cause n s e.event t.state ≡ None) → Awaits n s e t
  awaits grows away no_cause = record {
    grows = grows;
    to_come = record { away = away; order = step_in_order s e t h to_come.order };
    silent = λ low. away_silent n s e t h to_come.order (to_come.away low);
    no_cause = no_cause;
  }

  awaits_open : e.event ≡ Open → Awaits n s e t
  awaits_open is =
      let turn = turn_open n s e t h is in
      awaits (omega (arith, turn.next_is))
      (λ high.
      let low : s.next ≤ n = omega (arith, turn.next_is) in
      let other : s.next ≢ n = λ same. omega (arith, turn.next_is) in
      turn.open_is ∙ rw (to_come.away low, ne_eqb s.next n other) refl)
      (λ low. turn.cause_is)

  -- what may close sessions
  awaits_within : (taken : List Message) → MayClose n s e t taken → Awaits n s e t
  awaits_within taken (inl turn) = awaits (omega (arith, turn.next_is)) (λ high. turn.open_is ∙ to_come.away (omega (arith, turn.next_is))) (λ low. turn.cause_is)
  awaits_within taken (inr (was, turn)) = awaits (omega (arith, turn.next_is)) (λ high. turn.open_is) (λ low. absurd (false≢true (sym (to_come.away low) ∙ was)))

  awaits_close_own : (cause : Cause) → e.event ≡ Close n cause → Awaits n s e t
  awaits_close_own cause is =
      let turn = turn_close n s e t h cause is in
      awaits (omega (arith, turn.next_is)) (λ high. turn.open_is) (λ low. absurd (false≢true (sym (to_come.away low) ∙ close_of_open s e t h n cause is)))

  awaits_close_other : (m : ℕ) (cause : Cause) → m ≢ n → e.event ≡ Close m cause → Awaits n s e t
  awaits_close_other m cause other is =
      let turn = turn_close_other n s e t h m cause other is in
      awaits (omega (arith, turn.next_is)) (λ high. turn.open_is ∙ to_come.away (omega (arith, turn.next_is))) (λ low. turn.cause_is)

  awaits_by : (what : Event) → e.event ≡ what → Awaits n s e t
  awaits_by Open is = awaits_open is
  awaits_by Tick is = awaits_within [] (turn_tick n s e t h is)
  awaits_by (Close m cause) is = elim (cases_eq m n) [
    | inl same ↦ awaits_close_own cause (is ∙ ap (λ k. Close k cause) same)
    | inr other ↦ awaits_close_other m cause other is
  ]
  awaits_by (Take m message) is = elim (cases_eq m n) [
    | inl same ↦ awaits_within (message ∷ []) (turn_take n s e t h message (is ∙ ap (λ k. Take k message) same))
    | inr other ↦ awaits_within [] (turn_take_other n s e t h m message other is)
  ]

-- ---- whole histories

-- a session that is still to come after a history was sent nothing by it, and was not closed
pub record Unopened (n : ℕ) (s : State) (h : List Entry) (t : Stepped) : Type 0 where
  pub low : s.next ≤ n
  pub silent : frames_to n t.sent ≡ []
  pub no_cause : closed_by s h n ≡ None

pub unopened : (n : ℕ) (s : State) (h : List Entry) (t : Stepped) → ToCome n s → run s h ≡ Some t → t.state.next ≤ n → Unopened n s h t
unopened n s [] t to_come r high =
    let same : record { state = s; sent = [] } ≡ t = same_Some (record { state = s; sent = [] }) t r in
    let next : s.next ≡ t.state.next = ap (λ (v : Stepped). v.state.next) same in
    record { low = omega arith; silent = ap (λ (v : Stepped). frames_to n v.sent) (sym same); no_cause = refl }
unopened n s (e ∷ h) t to_come r high =
    let parts = run_parts s e h t r in
    let one = awaits_by n s e parts.first parts.stepped to_come e.event refl in
    let next : parts.rest.state.next ≡ t.state.next = ap (λ (v : State). v.next) parts.state in
    let others = unopened n parts.first.state h parts.rest one.to_come parts.runs (omega arith) in
    let low : s.next ≤ n = omega (arith, one.grows, others.low) in
    record {
      low = low;
      silent = ap (frames_to n) (sym parts.sent) ∙ (frames_to-append n parts.first.sent parts.rest.sent ∙ (ap (λ (fs : List (List ℕ)). fs ++ frames_to n parts.rest.sent) (one.silent low) ∙ others.silent));
      no_cause = closed_by_first s e h n parts.first parts.stepped ∙ (ap (λ (o : Option Cause). option_or o (closed_by parts.first.state h n)) (one.no_cause low) ∙ others.no_cause);
    }

-- at an opening no lock is asked for
none_sorted : DoQueuesAscend []
unfolding IsStrictlySortedBy
none_sorted = tt

opening_in_order : (schema : Schema) (database : Database) → InOrder (opening schema database)
opening_in_order schema database = ((none_sorted, tt), tt)

-- a history from its opening says nothing of the next session
pub next_is_unopened : (schema : Schema) (database : Database) (h : List Entry) (t : Stepped) (n : ℕ) → n ≡ t.state.next → run (opening schema database) h ≡ Some t → Unopened n (opening schema database) h t
next_is_unopened schema database h t n is r = unopened n (opening schema database) h t (record { away = λ low. refl; order = opening_in_order schema database }) r (omega arith)
