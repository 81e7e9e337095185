-- What is entered into a history, one part after another.
use Rattle.std.proofs.Common.{◌≡◌, inl, inr, ℕ, List, [], ◌∷◌, ◌++◌, map, refl, sym, ap, subst, ◌∙◌, append_assoc, Option, Some, Bool, false}
use Rattle.std.specs.Prelude.{option_map, option_and_then, max}
use Rattle.std.proofs.lemmas.Option.{same_Some}
use Rattle.ov_specs.specs.wire.Message.{Message}
use Rattle.ov_specs.specs.values.Uuid.{Uuid}
use Rattle.ov_specs.specs.machine.Machine as machine
use Rattle.ov_specs.specs.machine.Machine.{State, Entry, Sent, Stepped, step, is_open, Take}
use Rattle.ov_specs.specs.machine.History.{run, then_sends}
use Rattle.ov_specs.proofs.laws.Histories.{run_parts, run_more}
use Rattle.ov_order.specs.declared.items.Sent.{Sent as Item}
use Rattle.ov_order.specs.declared.items.Brought.{Brought}
use Rattle.ov_order.specs.declared.items.Brought.TheVariants.{Message as Brings, End as Last}
use Rattle.ov_workers.specs.declared.cause.ReadCause.{ReadCause}
use Rattle.ov_history.specs.declared.event.Cause.{Cause}
use Rattle.ov_history.specs.declared.event.Entry.{Entry as Kept}
use Rattle.ov_history.specs.declared.event.Stepped.{Stepped as Reply}
use Rattle.ov_history.specs.declared.event.Stepped.TheVariants as answer
use Rattle.ov_history.specs.declared.event.StepFault.{StepFault}
use Rattle.ov_history.specs.declared.event.StepFault.TheVariants as fault
use Rattle.ov_history.specs.Entries.{entry_view}
use Rattle.ov_history.proofs.Histories.{keeps_on}
use Rattle.ov_core.specs.Following.{CoreState, EntersEntry}
use Rattle.ov_core.specs.Stepping.{StepIs, RefusesStep, closing}
use Rattle.ov_lanes.specs.Entering.{Enters, IsOverrun, EntersOverruns, EntersItem, EntersTurn}
use Rattle.ov_lanes.specs.Fitting.{end_cause}
use Rattle.ov_lanes.specs.Moving.{ClosesOnce, MovesFrames, GivesUp, TakesItem, at_lane}
use Rattle.ov_lanes.specs.Pairs.{Each}
use Rattle.ov_lanes.specs.declared.lane.Lane.{Lane}

-- one run after another
runs_on : (s : State) (h k : List Entry) (t u : Stepped) → run s h ≡ Some t → run t.state k ≡ Some u → run s (h ++ k) ≡ Some (record { state = u.state; sent = t.sent ++ u.sent })
runs_on s [] k t u p q =
    let same : record { state = s; sent = [] } ≡ t = same_Some _ _ p in
    subst (λ (v : Stepped). run v.state k ≡ Some u) (sym same) q
    ∙ ap (λ (v : Stepped). Some (record { state = u.state; sent = v.sent ++ u.sent })) same
runs_on s (e ∷ h) k t u p q =
    let parts = run_parts s e h t p in
    let again = runs_on parts.first.state h k parts.rest u parts.runs (subst (λ (v : State). run v k ≡ Some u) (sym parts.state) q) in
    ap (option_and_then (λ (v : Stepped). option_map (then_sends v.sent) (run v.state (h ++ k)))) parts.stepped
    ∙ (ap (option_map (then_sends parts.first.sent)) again
    ∙ ap (λ (l : List Sent). Some (record { state = u.state; sent = l })) (sym (append_assoc parts.first.sent parts.rest.sent u.sent) ∙ ap (λ (l : List Sent). l ++ u.sent) parts.sent))

-- ---- facts of each element

each_along : {A : Type 0} (P : A → Type 0) (xs ys : List A) → Each P xs → Each P ys → Each P (xs ++ ys)
each_along P [] ys x y = y
each_along P (e ∷ xs) ys x y = (x.0, each_along P xs ys x.1 y)

each_by : {A : Type 0} (P Q : A → Type 0) → ((x : A) → P x → Q x) → (xs : List A) → Each P xs → Each Q xs
each_by P Q by [] x = x
each_by P Q by (e ∷ xs) x = (by e x.0, each_by P Q by xs x.1)

-- ---- entries

module _ {K D : Type 0} (a b : CoreState K D) where
  -- nothing was entered
  pub enters_none : b.state ≡ a.state → b.kept ≡ a.kept → Enters [] a b
  enters_none state kept = record {
    sent = [];
    legal = ap (λ (s : State). Some (record { state = s; sent = [] })) (sym state);
    keeps = ap (λ (l : List Kept). map entry_view l) kept;
  }

  enters_entry : (e : Entry) → EntersEntry a e b → Enters (e ∷ []) a b
  enters_entry e m = record {
    sent = m.sent;
    legal = run_more a.state [] e (record { state = a.state; sent = [] }) (record { state = b.state; sent = m.sent }) refl m.stepped;
    keeps = m.follows.keeps;
  }

  enters_same : b ≡ a → Enters [] a b
  enters_same same = enters_none (ap (λ (c : CoreState K D). c.state) same) (ap (λ (c : CoreState K D). c.kept) same)

  -- ---- closings for want of room

  pub overruns_none : (P : ℕ → Type 0) → b.state ≡ a.state → b.kept ≡ a.kept → EntersOverruns P a b
  overruns_none P state kept = ([], tt, enters_none state kept)

  pub overruns_by : (P Q : ℕ → Type 0) → ((n : ℕ) → P n → Q n) → EntersOverruns P a b → EntersOverruns Q a b
  overruns_by P Q by x = (x.0, each_by (IsOverrun P) (IsOverrun Q) (λ e o. (o.0, o.1, by o.0 o.2, o.3)) x.0 x.1, x.2)

  pub overruns_moved : (P : ℕ → Type 0) (n : ℕ) (is_all : Bool) (put put' : List Item) → MovesFrames n is_all a b put put' → EntersOverruns P a b
  overruns_moved P n is_all put put' m = overruns_none P (ap (λ (c : CoreState K D). c.state) m.hands.same) (ap (λ (c : CoreState K D). c.kept) m.hands.same)

  overruns_closed : (n : ℕ) (known known' : Option Cause) → ClosesOnce n machine.Overrun a b known known' → EntersOverruns (λ m. m ≡ n) a b
  overruns_closed n known known' (inl (closes, cause)) =
      (closing a.state.moment n machine.Overrun ∷ [], ((n, a.state.moment, refl, refl), tt), enters_entry (closing a.state.moment n machine.Overrun) closes.moves)
  overruns_closed n known known' (inr (same, away, known_same)) = ([], tt, enters_same same)

  -- ---- an item

  away_refused : (n : ℕ) (message : Message) (f : StepFault) → RefusesStep (Take n message) a.state f → is_open a.state n ≡ false
  away_refused n message fault.NotOpen why = why
  away_refused n message fault.TooMany why = absurd why
  away_refused n message fault.Memory why = absurd why

  enters_message : (draws : D → Uuid → D → Type 0) (at n : ℕ) (message : Message) (r : Reply) → StepIs draws at (Take n message) a r b → EntersItem n (Brings message) a b
  enters_message draws at n message (answer.Opened session) e = absurd e.tells
  enters_message draws at n message answer.Done e = inl (e.entry, inl e.tells.0, enters_entry e.entry e.moves)
  enters_message draws at n message answer.Closed e = inl (e.entry, e.tells.0, enters_entry e.entry e.moves)
  enters_message draws at n message (answer.Refused f) (same, why) = inr (away_refused n message f why, enters_same same)

  enters_end : (n : ℕ) (cause : ReadCause) (known known' : Option Cause) → ClosesOnce n (end_cause cause) a b known known' → EntersItem n (Last cause) a b
  enters_end n cause known known' (inl (closes, why)) = inl (closing a.state.moment n (end_cause cause), refl, enters_entry (closing a.state.moment n (end_cause cause)) closes.moves)
  enters_end n cause known known' (inr (same, away, known_same)) = inr (away, enters_same same)

  pub enters_item : (draws : D → Uuid → D → Type 0) (at : ℕ) (item : Brought Message ReadCause) (l m : Lane) → TakesItem draws at item (at_lane a l) (at_lane b m) → EntersItem l.session.serial item a b
  enters_item draws at (Brings message) l m ((r, is), same, same') = enters_message draws (max at a.state.moment) l.session.serial message r is
  enters_item draws at (Last cause) l m (closes, is) = enters_end l.session.serial cause l.cause m.cause closes

module _ {K D : Type 0} (a b c : CoreState K D) where
  enters_along : (xs ys : List Entry) → Enters xs a b → Enters ys b c → Enters (xs ++ ys) a c
  enters_along xs ys x y = record {
    sent = x.sent ++ y.sent;
    legal = runs_on a.state xs ys (record { state = b.state; sent = x.sent }) (record { state = c.state; sent = y.sent }) x.legal y.legal;
    keeps = keeps_on a.kept b.kept c.kept xs ys x.keeps y.keeps;
  }

  pub overruns_along : (P : ℕ → Type 0) → EntersOverruns P a b → EntersOverruns P b c → EntersOverruns P a c
  overruns_along P x y = (x.0 ++ y.0, each_along (IsOverrun P) x.0 y.0 x.1 y.1, enters_along x.0 y.0 x.2 y.2)

-- a session was given up
pub overruns_given_up : {K D : Type 0} (n : ℕ) (a b : CoreState K D) (known known' : Option Cause) → GivesUp n a b known known' → EntersOverruns (λ m. m ≡ n) a b
overruns_given_up {K} {D} n a b known known' g =
    overruns_along a g.mid b (λ m. m ≡ n) (overruns_closed a g.mid n known known' g.closes)
    (overruns_none g.mid b (λ m. m ≡ n) (ap (λ (c : CoreState K D). c.state) g.drops.same) (ap (λ (c : CoreState K D). c.kept) g.drops.same))

-- ---- a turn

module _ {K D : Type 0} (a b : CoreState K D) (item : Brought Message ReadCause) where
  -- of other sessions
  pub turn_by : (P Q : ℕ → Type 0) → ((n : ℕ) → P n → Q n) → (n : ℕ) → EntersTurn P n item a b → EntersTurn Q n item a b
  turn_by P Q by n x = record {
    ready = x.ready;
    taken = x.taken;
    before = overruns_by a x.ready P Q by x.before;
    enters = x.enters;
    after = overruns_by x.taken b P Q by x.after;
  }

  -- and then more was moved
  pub turn_along : (P : ℕ → Type 0) (n m : ℕ) (c : CoreState K D) → n ≡ m → EntersTurn P n item a b → EntersOverruns P b c → EntersTurn P m item a c
  turn_along P n m c is x y = record {
    ready = x.ready;
    taken = x.taken;
    before = x.before;
    enters = subst (λ (k : ℕ). EntersItem k item x.ready x.taken) is x.enters;
    after = overruns_along x.taken b c P x.after y;
  }
