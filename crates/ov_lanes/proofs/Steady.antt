-- What opens no session.
use Rattle.std.proofs.Common.{◌≡◌, inl, inr, ℕ, List, [], ◌∷◌, ap, refl, ◌∙◌, Bool, true, false, Option, Result, Ok, Err}
use Rattle.std.specs.Prelude.{IfOk, IfErr, max}
use Rattle.ov_specs.specs.wire.Message.{Message}
use Rattle.ov_specs.specs.values.Uuid.{Uuid}
use Rattle.ov_specs.specs.machine.Machine as machine
use Rattle.ov_specs.specs.machine.Machine.{State, Entry, Stepped, Take, Tick}
use Rattle.ov_specs.proofs.laws.Turns.{MayClose, turn_close, turn_take, turn_tick}
use Rattle.ov_order.specs.declared.items.Sent.{Sent}
use Rattle.ov_order.specs.declared.items.Brought.{Brought}
use Rattle.ov_order.specs.declared.items.Brought.TheVariants.{Message as Brings, End as Last}
use Rattle.ov_workers.specs.declared.cause.ReadCause.{ReadCause}
use Rattle.ov_history.specs.declared.event.Cause.{Cause}
use Rattle.ov_history.specs.declared.event.Stepped.{Stepped as Reply}
use Rattle.ov_history.specs.declared.event.Stepped.TheVariants as answer
use Rattle.ov_history.specs.declared.event.StepFault.{StepFault}
use Rattle.ov_core.specs.Following.{CoreState}
use Rattle.ov_core.specs.Stepping.{StepIs, RefusesStep, closing}
use Rattle.ov_core.specs.Passing.{is_due, TicksIf}
use Rattle.ov_lanes.specs.Fitting.{end_cause}
use Rattle.ov_lanes.specs.Since.{HandsOut}
use Rattle.ov_lanes.specs.Lanes.{IsServed, IsSteady, FlushesDesk}
use Rattle.ov_lanes.specs.Moving.{ClosesOnce, MovesFrames, GivesUp, TakesItem, at_lane}
use Rattle.ov_lanes.specs.declared.desk.Desk.{Desk}
use Rattle.ov_lanes.specs.declared.lane.Lane.{Lane}
use Rattle.ov_lanes.proofs.Entering.{overruns_none, overruns_by, overruns_along}
use Rattle.ov_lanes.proofs.PlaceLaws.{goes_none, goes_along}
use Rattle.ov_lanes.proofs.Turning.{served_puts, stay_puts, stay_puts_along}

-- what may close sessions
may_close_next : (n : ℕ) (s : State) (e : Entry) (t : Stepped) (taken : List Message) → MayClose n s e t taken → t.state.next ≡ s.next
may_close_next n s e t taken (inl turn) = turn.next_is
may_close_next n s e t taken (inr (was, turn)) = turn.next_is

module _ {K D : Type 0} {a b : CoreState K D} where
  pub hands_next : (n : ℕ) (frames : List (List ℕ)) → HandsOut n frames a b → b.state.next ≡ a.state.next
  hands_next n frames h = ap (λ (r : CoreState K D). r.state.next) h.same

  pub closes_next : (n : ℕ) (why : machine.Cause) (known known' : Option Cause) → ClosesOnce n why a b known known' → b.state.next ≡ a.state.next
  closes_next n why known known' (inl (closes, cause)) =
      (turn_close n a.state (closing a.state.moment n why) (record { state = b.state; sent = closes.moves.sent }) closes.moves.stepped why refl).next_is
  closes_next n why known known' (inr (same, away, known_same)) = ap (λ (r : CoreState K D). r.state.next) same

  pub moves_next : (n : ℕ) (is_all : Bool) (put put' : List Sent) → MovesFrames n is_all a b put put' → b.state.next ≡ a.state.next
  moves_next n is_all put put' m = hands_next n m.frames m.hands

module _ {K D : Type 0} (a b : CoreState K D) where
  takes_next : (draws : D → Uuid → D → Type 0) (at n : ℕ) (message : Message) (r : Reply) → StepIs draws at (Take n message) a r b → b.state.next ≡ a.state.next
  takes_next draws at n message (answer.Opened session) e = absurd e.tells
  takes_next draws at n message answer.Done e =
      let t : Stepped = record { state = b.state; sent = e.moves.sent } in
      may_close_next n a.state e.entry t (message ∷ []) (turn_take n a.state e.entry t e.moves.stepped message e.tells.0)
  takes_next draws at n message answer.Closed e =
      let t : Stepped = record { state = b.state; sent = e.moves.sent } in
      elim e.tells.0 [
        | inl is ↦ may_close_next n a.state e.entry t (message ∷ []) (turn_take n a.state e.entry t e.moves.stepped message is)
        | inr is ↦ (turn_close n a.state e.entry t e.moves.stepped machine.Memory is).next_is
      ]
  takes_next draws at n message (answer.Refused fault) (same, why) = ap (λ (r : CoreState K D). r.state.next) same

  -- time passes, or not
  pub passes_next : (draws : D → Uuid → D → Type 0) (at : ℕ) (r : Result Bool StepFault) → IfOk r (λ ticks. TicksIf draws ticks at a b)
      → IfErr r (λ fault. (b ≡ a) × (is_due at a.state ≡ true) × RefusesStep Tick a.state fault) → b.state.next ≡ a.state.next
  passes_next draws at (Ok true) ticks refused =
      let t : Stepped = record { state = b.state; sent = ticks.moves.sent } in
      may_close_next 0 a.state ticks.entry t [] (turn_tick 0 a.state ticks.entry t ticks.moves.stepped ticks.tells)
  passes_next draws at (Ok false) ticks refused = ap (λ (r : CoreState K D). r.state.next) ticks
  passes_next draws at (Err fault) ticks refused = ap (λ (r : CoreState K D). r.state.next) refused.0

  pub item_next : (draws : D → Uuid → D → Type 0) (at : ℕ) (item : Brought Message ReadCause) (l m : Lane) → TakesItem draws at item (at_lane a l) (at_lane b m) → b.state.next ≡ a.state.next
  item_next draws at (Brings message) l m ((r, is), same, same') = takes_next draws (max at a.state.moment) l.session.serial message r is
  item_next draws at (Last cause) l m (closes, is) = closes_next l.session.serial (end_cause cause) l.cause m.cause closes

pub gives_up_next : {K D : Type 0} {a b : CoreState K D} (n : ℕ) (known known' : Option Cause) → GivesUp n a b known known' → b.state.next ≡ a.state.next
gives_up_next n known known' g = hands_next n _ g.drops ∙ closes_next n machine.Overrun known known' g.closes

module _ {K D : Type 0} (is_honest : K → Type 0) where
  pub steady_none : (a : CoreState K D) → IsSteady is_honest a a
  steady_none a = record { next = refl; honest = λ honest. honest }

  pub steady_along : (a b c : CoreState K D) → IsSteady is_honest a b → IsSteady is_honest b c → IsSteady is_honest a c
  steady_along a b c x y = record { next = y.next ∙ x.next; honest = λ honest. x.honest (y.honest honest) }

  -- ---- a desk that is flushed

  pub flushes_none : (a : Desk K D) → FlushesDesk is_honest a a
  flushes_none a = record {
    goes = λ moment. goes_none moment a.core a.lanes.items;
    enters = overruns_none a.core a.core (IsServed a.lanes.items) refl refl;
    rings = stay_puts a.lanes.items;
    steady = steady_none a.core;
  }

  pub flushes_along : (a b c : Desk K D) → FlushesDesk is_honest a b → FlushesDesk is_honest b c → FlushesDesk is_honest a c
  flushes_along a b c x y = record {
    goes = λ moment. goes_along moment a.lanes.items b.lanes.items c.lanes.items (x.goes moment) (y.goes moment);
    enters = overruns_along a.core b.core c.core (IsServed a.lanes.items) x.enters
        (overruns_by b.core c.core (IsServed b.lanes.items) (IsServed a.lanes.items) (served_puts a.lanes.items b.lanes.items x.rings) y.enters);
    rings = stay_puts_along a.lanes.items b.lanes.items c.lanes.items x.rings y.rings;
    steady = steady_along a.core b.core c.core x.steady y.steady;
  }
