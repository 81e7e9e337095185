-- A session that was closed: nothing more is sent to it, and nothing more is taken of it.
use Rattle.std.proofs.Common.{◌≡◌, ◌≢◌, ℕ, ◌<◌, ◌≤◌, List, [], ◌∷◌, ◌++◌, refl, sym, ap, subst, ◌∙◌, append_assoc, false, Some, inl, inr, arith}
use Rattle.std.proofs.lemmas.Bool.{cases_eq, ne_eqb, false≢true}
use Rattle.std.proofs.lemmas.Option.{same_Some}
use Rattle.ov_specs.specs.wire.Message.{Message}
use Rattle.ov_specs.specs.machine.Machine.{State, Entry, Event, Open, Take, Close, Tick, Sent, Stepped, step, is_open}
use Rattle.ov_specs.specs.machine.History.{run, frames_to, requests, taken_by}
use Rattle.ov_specs.proofs.laws.Histories.{run_parts}
use Rattle.ov_specs.proofs.laws.Queueing.{InOrder, step_in_order}
use Rattle.ov_specs.proofs.laws.Turns.{MayClose, turn_open, turn_tick, turn_close_other, turn_take_other, open_to_take}
use Rattle.ov_outbox.proofs.Answered.{frames_to-append}
use Rattle.ov_lanes.proofs.Silence.{away_silent, close_of_open}

-- it was opened, and is not open
pub record Gone (n : ℕ) (s : State) : Type 0 where
  pub low : n < s.next
  pub away : is_open s n ≡ false
  pub order : InOrder s

-- and so it stays: nothing is done to it
record StaysGone (n : ℕ) (e : Entry) (t : Stepped) : Type 0 where
  gone : Gone n t.state
  silent : frames_to n t.sent ≡ []
  unasked : taken_by n e.event ≡ []

module _ (n : ℕ) (s : State) (e : Entry) (t : Stepped) (h : step s e ≡ Some t) (gone : Gone n s) where
  stays : s.next ≤ t.state.next → is_open t.state n ≡ false → taken_by n e.event ≡ [] → StaysGone n e t
  stays grows away unasked = record {
    gone = record { low = let low = gone.low in omega (arith, grows, low); away = away; order = step_in_order s e t h gone.order };
    silent = away_silent n s e t h gone.order gone.away;
    unasked = unasked;
  }

  gone_open : e.event ≡ Open → StaysGone n e t
  gone_open is =
      let turn = turn_open n s e t h is in
      let other : s.next ≢ n = λ same. let low = gone.low in omega (arith, low, same) in
      stays (omega (arith, turn.next_is)) (turn.open_is ∙ rw (gone.away, ne_eqb s.next n other) refl) turn.taken_is

  gone_within : MayClose n s e t [] → StaysGone n e t
  gone_within (inl turn) = stays (omega (arith, turn.next_is)) (turn.open_is ∙ gone.away) turn.taken_is
  gone_within (inr (was, turn)) = absurd (false≢true (sym gone.away ∙ was))

  gone_by : (what : Event) → e.event ≡ what → StaysGone n e t
  gone_by Open is = gone_open is
  gone_by Tick is = gone_within (turn_tick n s e t h is)
  gone_by (Close m cause) is = elim (cases_eq m n) [
    | inl same ↦ absurd (false≢true (sym gone.away ∙ close_of_open s e t h n cause (is ∙ ap (λ k. Close k cause) same)))
    | inr other ↦ let turn = turn_close_other n s e t h m cause other is in stays (omega (arith, turn.next_is)) (turn.open_is ∙ gone.away) turn.taken_is
  ]
  gone_by (Take m message) is = elim (cases_eq m n) [
    | inl same ↦ absurd (false≢true (sym gone.away ∙ open_to_take s e t h n message (is ∙ ap (λ k. Take k message) same)))
    | inr other ↦ gone_within (turn_take_other n s e t h m message other is)
  ]

-- ---- whole histories

pub record GoneOn (n : ℕ) (h : List Entry) (t : Stepped) : Type 0 where
  pub gone : Gone n t.state
  pub silent : frames_to n t.sent ≡ []
  pub unasked : requests h n ≡ []

pub gone_on : (n : ℕ) (s : State) (h : List Entry) (t : Stepped) → Gone n s → run s h ≡ Some t → GoneOn n h t
gone_on n s [] t gone r =
    let same : record { state = s; sent = [] } ≡ t = same_Some (record { state = s; sent = [] }) t r in
    record { gone = subst (λ (v : Stepped). Gone n v.state) same gone; silent = ap (λ (v : Stepped). frames_to n v.sent) (sym same); unasked = refl }
gone_on n s (e ∷ h) t gone r =
    let parts = run_parts s e h t r in
    let one = gone_by n s e parts.first parts.stepped gone e.event refl in
    let others = gone_on n parts.first.state h parts.rest one.gone parts.runs in
    record {
      gone = subst (λ (v : State). Gone n v) parts.state others.gone;
      silent = ap (frames_to n) (sym parts.sent) ∙ (frames_to-append n parts.first.sent parts.rest.sent ∙ (ap (λ (fs : List (List ℕ)). fs ++ frames_to n parts.rest.sent) one.silent ∙ others.silent));
      unasked = ap (λ (l : List Message). l ++ requests h n) one.unasked ∙ others.unasked;
    }

-- where a run goes on from its first part
pub record GoesFrom (t : Stepped) (h : List Entry) (u : Stepped) : Type 0 where
  pub rest : Stepped
  pub runs : run t.state h ≡ Some rest
  pub state : rest.state ≡ u.state
  pub sent : t.sent ++ rest.sent ≡ u.sent

pub goes_from : (s : State) (h k : List Entry) (t u : Stepped) → run s h ≡ Some t → run s (h ++ k) ≡ Some u → GoesFrom t k u
goes_from s [] k t u p q =
    let same : record { state = s; sent = [] } ≡ t = same_Some (record { state = s; sent = [] }) t p in
    record { rest = u; runs = subst (λ (v : Stepped). run v.state k ≡ Some u) same q; state = refl; sent = ap (λ (v : Stepped). v.sent ++ u.sent) (sym same) }
goes_from s (e ∷ h) k t u p q =
    let a = run_parts s e h t p in let b = run_parts s e (h ++ k) u q in
    let first : a.first ≡ b.first = same_Some a.first b.first (sym a.stepped ∙ b.stepped) in
    let again = goes_from a.first.state h k a.rest b.rest a.runs (subst (λ (v : Stepped). run v.state (h ++ k) ≡ Some b.rest) (sym first) b.runs) in
    record {
      rest = again.rest;
      runs = subst (λ (v : State). run v k ≡ Some again.rest) a.state again.runs;
      state = again.state ∙ b.state;
      sent =
          ap (λ (l : List Sent). l ++ again.rest.sent) (sym a.sent)
          ∙ (append_assoc a.first.sent a.rest.sent again.rest.sent ∙ (ap (λ (l : List Sent). a.first.sent ++ l) again.sent ∙ (ap (λ (v : Stepped). v.sent ++ b.rest.sent) first ∙ b.sent)));
    }
