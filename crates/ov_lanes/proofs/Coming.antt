-- A session that is still to come: it is not open and was not closed.
use Rattle.std.proofs.Common.{◌≡◌, ◌≢◌, ℕ, ◌≤◌, List, [], ◌∷◌, refl, sym, ap, subst, ◌∙◌, false, Some, None, inl, inr, arith}
use Rattle.std.specs.Prelude.{not, is_some}
use Rattle.std.proofs.lemmas.Bool.{cases_eq, ne_eqb, false≢true}
use Rattle.std.proofs.lemmas.Option.{same_Some}
use Rattle.ov_specs.specs.machine.Machine.{State, Entry, Event, Open, Take, Close, Tick, Stepped, step, is_open, opening}
use Rattle.ov_specs.specs.machine.History.{run, requests, closed_by}
use Rattle.ov_specs.proofs.laws.Histories.{run_parts}
use Rattle.ov_specs.proofs.laws.Turns.{MayClose, turn_open, turn_tick, turn_close, turn_close_other, turn_take, turn_take_other}
use Rattle.ov_history.specs.declared.event.Entry.{Entry as Kept}
use Rattle.ov_core.specs.Following.{CoreState}
use Rattle.ov_history.specs.History.{HasHistory}
use Rattle.ov_lanes.specs.Courses.{shut_by}
use Rattle.ov_lanes.specs.Since.{Since}
use Rattle.ov_lanes.specs.Lanes.{LaneFits}
use Rattle.ov_lanes.specs.declared.lane.Lane.{Lane}
use Rattle.ov_lanes.proofs.Silence.{known_in_order}
use Rattle.ov_lanes.proofs.Unopened.{ToCome, Unopened, unopened}

module _ (n : ℕ) (s : State) (e : Entry) (t : Stepped) (h : step s e ≡ Some t) (away : s.next ≤ n → is_open s n ≡ false) where
  -- after one entry it is not open, if it is still to come then
  abbrev Away : Type 0
  Away = t.state.next ≤ n → is_open t.state n ≡ false

  away_open : e.event ≡ Open → Away
  away_open is high =
      let turn = turn_open n s e t h is in
      let low : s.next ≤ n = omega (arith, turn.next_is, high) in
      let other : s.next ≢ n = λ same. omega (arith, turn.next_is, high, same) in
      turn.open_is ∙ rw (away low, ne_eqb s.next n other) refl

  away_within : MayClose n s e t [] → Away
  away_within (inl turn) high = turn.open_is ∙ away (omega (arith, turn.next_is, high))
  away_within (inr (was, turn)) high = turn.open_is

  away_by : (what : Event) → e.event ≡ what → Away
  away_by Open is high = away_open is high
  away_by Tick is high = away_within (turn_tick n s e t h is) high
  away_by (Close m cause) is high = elim (cases_eq m n) [
    | inl same ↦ (turn_close n s e t h cause (is ∙ ap (λ k. Close k cause) same)).open_is
    | inr other ↦ let turn = turn_close_other n s e t h m cause other is in turn.open_is ∙ away (omega (arith, turn.next_is, high))
  ]
  away_by (Take m message) is high = elim (cases_eq m n) [
    | inl same ↦ elim (turn_take n s e t h message (is ∙ ap (λ k. Take k message) same)) [
      | inl turn ↦ turn.open_is ∙ away (omega (arith, turn.next_is, high))
      | inr (was, turn) ↦ turn.open_is
    ]
    | inr other ↦ away_within (turn_take_other n s e t h m message other is) high
  ]

-- after a history
away_after : (n : ℕ) (s : State) (h : List Entry) (t : Stepped) → run s h ≡ Some t → (s.next ≤ n → is_open s n ≡ false) → t.state.next ≤ n → is_open t.state n ≡ false
away_after n s [] t r away high =
    let same : record { state = s; sent = [] } ≡ t = same_Some (record { state = s; sent = [] }) t r in
    let next : s.next ≡ t.state.next = ap (λ (v : Stepped). v.state.next) same in
    ap (λ (v : Stepped). is_open v.state n) (sym same) ∙ away (omega (arith, next, high))
away_after n s (e ∷ h) t r away high =
    let parts = run_parts s e h t r in
    let next : parts.rest.state.next ≡ t.state.next = ap (λ (v : State). v.next) parts.state in
    ap (λ (v : State). is_open v n) (sym parts.state)
    ∙ away_after n parts.first.state h parts.rest parts.runs (away_by n s e parts.first parts.stepped away e.event refl) (omega (arith, next, high))

-- with a core that has a history
to_come : (n : ℕ) (s : State) (kept : List Kept) → HasHistory s kept → ToCome n s
to_come n s kept known = record {
  away = λ high. away_after n (opening known.schema known.database) known.history (record { state = s; sent = known.sent }) known.legal (λ low. refl) high;
  order = known_in_order s kept known;
}

module _ {K D : Type 0} {start a : CoreState K D} (p : Since start a) (n : ℕ) (high : a.state.next ≤ n) where
  coming : ToCome n start.state
  coming = to_come n start.state start.kept p.known

  untouched : Unopened n start.state p.entries (record { state = a.state; sent = p.sent })
  untouched = unopened n start.state p.entries (record { state = a.state; sent = p.sent }) coming p.legal high

  pub coming_later : start.state.next ≤ n
  coming_later = untouched.low

  pub coming_away : is_open a.state n ≡ false
  coming_away = away_after n start.state p.entries (record { state = a.state; sent = p.sent }) p.legal coming.away high

  pub coming_unclosed : closed_by start.state p.entries n ≡ None
  coming_unclosed = untouched.no_cause

  pub coming_unasked : requests p.entries n ≡ []
  coming_unasked = untouched.unasked

  pub coming_unshut : shut_by p.entries n ≡ []
  coming_unshut = untouched.unshut

  -- so no lane fits it
  pub coming_unserved : (l : Lane) → LaneFits p l → l.session.serial ≡ n → ⊥
  coming_unserved l fits is =
      let opens : is_some (closed_by start.state p.entries n) ≡ not (is_open a.state n) = subst (λ (k : ℕ). is_some (closed_by start.state p.entries k) ≡ not (is_open a.state k)) is fits.opens in
      false≢true (sym (ap is_some coming_unclosed) ∙ (opens ∙ ap not coming_away))
