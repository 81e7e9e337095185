-- A session that is still to come: nothing was sent to it, it was not closed, and nothing was taken of it.
use Rattle.std.proofs.Common.{◌≡◌, ◌≢◌, ℕ, ◌≤◌, List, [], ◌∷◌, ◌++◌, refl, sym, ap, ◌∙◌, cond, Bool, true, false, Option, Some, None, inl, inr, arith}
use Rattle.std.specs.Option.{option_or}
use Rattle.std.proofs.lemmas.Bool.{cases_eq, ne_eqb, false≢true}
use Rattle.std.proofs.lemmas.Option.{same_Some}
use Rattle.ov_specs.specs.wire.Message.{Message}
use Rattle.ov_specs.specs.machine.Machine.{State, Entry, Event, Open, Take, Close, Tick, Cause, Stepped, step, is_open, opening}
use Rattle.ov_specs.specs.rows.Database.{Database}
use Rattle.ov_specs.specs.schema.SchemaTypes.{Schema}
use Rattle.ov_specs.specs.machine.History.{run, frames_to, requests, taken_by, closing_cause, closed_by}
use Rattle.ov_specs.proofs.laws.Histories.{run_parts, closed_by_first}
use Rattle.ov_specs.proofs.laws.Queueing.{InOrder, step_in_order}
use Rattle.ov_specs.proofs.laws.Turns.{MayClose, turn_open, turn_tick, turn_close, turn_close_other, turn_take, turn_take_other, open_to_take}
use Rattle.ov_outbox.proofs.Answered.{frames_to-append}
use Rattle.ov_lanes.specs.Courses.{shut_in, shut_by}
use Rattle.ov_lanes.proofs.Silence.{away_silent, close_of_open, opening_in_order}

-- A session whose serial is still to come is not open. Sessions that are notified of locks are open, since the queues are in
-- order.
pub record ToCome (n : ℕ) (s : State) : Type 0 where
  pub away : s.next ≤ n → is_open s n ≡ false
  pub order : InOrder s

-- What a step leaves of a session that may be still to come. If it still is after the step, nothing was done to it.
pub record Awaits (n : ℕ) (s : State) (e : Entry) (t : Stepped) : Type 0 where
  pub grows : s.next ≤ t.state.next
  pub to_come : ToCome n t.state
  pub silent : s.next ≤ n → frames_to n t.sent ≡ []
  pub no_cause : s.next ≤ n → closing_cause n s e.event t.state ≡ None
  pub unasked : s.next ≤ n → taken_by n e.event ≡ []
  pub unshut : s.next ≤ n → shut_in n e.event ≡ []

module _ (n : ℕ) (s : State) (e : Entry) (t : Stepped) (h : step s e ≡ Some t) (to_come : ToCome n s) where
  -- by what becomes of the session, and by what closes it
  awaits : s.next ≤ t.state.next → (t.state.next ≤ n → is_open t.state n ≡ false) → (s.next ≤ n → closing_cause n s e.event t.state ≡ None) → (s.next ≤ n → taken_by n e.event ≡ []) → (s.next ≤ n → shut_in n e.event ≡ []) → Awaits n s e t
  awaits grows away no_cause unasked unshut = record {
    grows = grows;
    to_come = record { away = away; order = step_in_order s e t h to_come.order };
    silent = λ low. away_silent n s e t h to_come.order (to_come.away low);
    no_cause = no_cause;
    unasked = unasked;
    unshut = unshut;
  }

  awaits_open : e.event ≡ Open → Awaits n s e t
  awaits_open is =
      let turn = turn_open n s e t h is in
      awaits (omega (arith, turn.next_is))
      (λ high.
      let low : s.next ≤ n = omega (arith, turn.next_is) in
      let other : s.next ≢ n = λ same. omega (arith, turn.next_is) in
      turn.open_is ∙ rw (to_come.away low, ne_eqb s.next n other) refl)
      (λ low. turn.cause_is)
      (λ low. turn.taken_is)
      (λ low. ap (shut_in n) is)

  -- what may close sessions
  awaits_within : shut_in n e.event ≡ [] → MayClose n s e t [] → Awaits n s e t
  awaits_within quiet (inl turn) = awaits (omega (arith, turn.next_is)) (λ high. turn.open_is ∙ to_come.away (omega (arith, turn.next_is))) (λ low. turn.cause_is) (λ low. turn.taken_is) (λ low. quiet)
  awaits_within quiet (inr (was, turn)) = awaits (omega (arith, turn.next_is)) (λ high. turn.open_is) (λ low. absurd (false≢true (sym (to_come.away low) ∙ was))) (λ low. turn.taken_is) (λ low. quiet)

  awaits_close_own : (cause : Cause) → e.event ≡ Close n cause → Awaits n s e t
  awaits_close_own cause is =
      let turn = turn_close n s e t h cause is in
      let never : s.next ≤ n → ⊥ = λ low. false≢true (sym (to_come.away low) ∙ close_of_open s e t h n cause is) in
      awaits (omega (arith, turn.next_is)) (λ high. turn.open_is) (λ low. absurd (never low)) (λ low. turn.taken_is) (λ low. absurd (never low))

  awaits_close_other : (m : ℕ) (cause : Cause) → m ≢ n → e.event ≡ Close m cause → Awaits n s e t
  awaits_close_other m cause other is =
      let turn = turn_close_other n s e t h m cause other is in
      awaits (omega (arith, turn.next_is)) (λ high. turn.open_is ∙ to_come.away (omega (arith, turn.next_is))) (λ low. turn.cause_is) (λ low. turn.taken_is)
      (λ low. ap (shut_in n) is ∙ ap (λ (k : Bool). cond k (cause ∷ []) []) (ne_eqb m n other))

  -- a message of it is taken only once it was opened
  awaits_take : (message : Message) → e.event ≡ Take n message → Awaits n s e t
  awaits_take message is =
      let was : is_open s n ≡ true = open_to_take s e t h n message is in
      let never : s.next ≤ n → ⊥ = λ low. false≢true (sym (to_come.away low) ∙ was) in
      elim (turn_take n s e t h message is) [
        | inl turn ↦ awaits (omega (arith, turn.next_is)) (λ high. turn.open_is ∙ to_come.away (omega (arith, turn.next_is))) (λ low. turn.cause_is) (λ low. absurd (never low)) (λ low. absurd (never low))
        | inr (was', turn) ↦ awaits (omega (arith, turn.next_is)) (λ high. turn.open_is) (λ low. absurd (never low)) (λ low. absurd (never low)) (λ low. absurd (never low))
      ]

  awaits_by : (what : Event) → e.event ≡ what → Awaits n s e t
  awaits_by Open is = awaits_open is
  awaits_by Tick is = awaits_within (ap (shut_in n) is) (turn_tick n s e t h is)
  awaits_by (Close m cause) is = elim (cases_eq m n) [
    | inl same ↦ awaits_close_own cause (is ∙ ap (λ k. Close k cause) same)
    | inr other ↦ awaits_close_other m cause other is
  ]
  awaits_by (Take m message) is = elim (cases_eq m n) [
    | inl same ↦ awaits_take message (is ∙ ap (λ k. Take k message) same)
    | inr other ↦ awaits_within (ap (shut_in n) is) (turn_take_other n s e t h m message other is)
  ]

-- ---- whole histories

-- a session that is still to come after a history was sent nothing by it, was not closed, and nothing was taken of it
pub record Unopened (n : ℕ) (s : State) (h : List Entry) (t : Stepped) : Type 0 where
  pub low : s.next ≤ n
  pub silent : frames_to n t.sent ≡ []
  pub no_cause : closed_by s h n ≡ None
  pub unasked : requests h n ≡ []
  pub unshut : shut_by h n ≡ []

pub unopened : (n : ℕ) (s : State) (h : List Entry) (t : Stepped) → ToCome n s → run s h ≡ Some t → t.state.next ≤ n → Unopened n s h t
unopened n s [] t to_come r high =
    let same : record { state = s; sent = [] } ≡ t = same_Some (record { state = s; sent = [] }) t r in
    let next : s.next ≡ t.state.next = ap (λ (v : Stepped). v.state.next) same in
    record { low = omega arith; silent = ap (λ (v : Stepped). frames_to n v.sent) (sym same); no_cause = refl; unasked = refl; unshut = refl }
unopened n s (e ∷ h) t to_come r high =
    let parts = run_parts s e h t r in
    let one = awaits_by n s e parts.first parts.stepped to_come e.event refl in
    let next : parts.rest.state.next ≡ t.state.next = ap (λ (v : State). v.next) parts.state in
    let others = unopened n parts.first.state h parts.rest one.to_come parts.runs (omega arith) in
    let low : s.next ≤ n = omega (arith, one.grows, others.low) in
    record {
      low = low;
      silent = ap (frames_to n) (sym parts.sent) ∙ (frames_to-append n parts.first.sent parts.rest.sent ∙ (ap (λ (fs : List (List ℕ)). fs ++ frames_to n parts.rest.sent) (one.silent low) ∙ others.silent));
      no_cause = closed_by_first s e h n parts.first parts.stepped ∙ (ap (λ (o : Option Cause). option_or o (closed_by parts.first.state h n)) (one.no_cause low) ∙ others.no_cause);
      unasked = ap (λ (l : List Message). l ++ requests h n) (one.unasked low) ∙ others.unasked;
      unshut = ap (λ (l : List Cause). l ++ shut_by h n) (one.unshut low) ∙ others.unshut;
    }

-- a history from an opening says nothing of a session that is still to come
pub later_is_unopened : (schema : Schema) (database : Database) (h : List Entry) (t : Stepped) (n : ℕ) → t.state.next ≤ n → run (opening schema database) h ≡ Some t → Unopened n (opening schema database) h t
later_is_unopened schema database h t n high r = unopened n (opening schema database) h t (record { away = λ low. refl; order = opening_in_order schema database }) r high
