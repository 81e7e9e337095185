-- Why a session was closed, by the entries that its stream made.
use Rattle.std.proofs.Common.{◌≡◌, ℕ, List, [], ◌∷◌, ◌++◌, refl, sym, ap, subst, ◌∙◌, append_assoc, Bool, true, false, Some, None, ◌⊎◌, inl, inr}
use Rattle.std.proofs.lemmas.List.{append-nil}
use Rattle.std.proofs.lemmas.Bool.{false≢true, MatchBool-at_true, MatchBool-at_false}
use Rattle.ov_specs.specs.wire.Message.{Message}
use Rattle.ov_specs.specs.machine.Machine.{State, Entry, Event, Open, Take, Close, Tick, Cause, InputEnded, ReadFault, WriteFault, Damaged, Overrun, Memory, Stepped, step, is_open}
use Rattle.ov_specs.specs.machine.History.{closed_by, closing_cause}
use Rattle.std.specs.Option.{option_or}
use Rattle.ov_specs.specs.machine.Streams.{IsEntryAt, Feeds, delivered}
use Rattle.ov_specs.proofs.laws.Histories.{Leads, leads_more, closed_by_more}
use Rattle.ov_specs.proofs.laws.Turns.{Turn, turn_close, turn_take, turn_tick, session_after}
use Rattle.ov_serve.specs.Progress.{stream_cause, IsShut, StandsAfter}

-- a session that is open, and was not closed
pub stands_open : (n : ℕ) (before : State) (h : List Entry) (s : State) → Leads before h s → is_open s n ≡ true → closed_by before h n ≡ None → StandsAfter n before h s
stands_open n before h s leads there none = record { sent = leads.0; leads = leads.1; stands = rw there none }

-- a session that was closed by its stream
stands_shut : (n : ℕ) (before : State) (h : List Entry) (s : State) → Leads before h s → is_open s n ≡ false → IsShut n before h → StandsAfter n before h s
stands_shut n before h s leads away shut = record { sent = leads.0; leads = leads.1; stands = rw away shut }

-- of an open session
pub not_closed : (n : ℕ) (before : State) (h : List Entry) (s : State) → StandsAfter n before h s → is_open s n ≡ true → closed_by before h n ≡ None
not_closed n before h s after there = MatchBool-at_true (closed_by before h n ≡ None) (IsShut n before h) there after.stands

-- of a closed one
pub is_shut : (n : ℕ) (before : State) (h : List Entry) (s : State) → StandsAfter n before h s → is_open s n ≡ false → IsShut n before h
is_shut n before h s after away = MatchBool-at_false (closed_by before h n ≡ None) (IsShut n before h) away after.stands

-- one closing more
pub closed_by_closing : (n : ℕ) (before : State) (h : List Entry) (s : State) (e : Entry) (t : Stepped) (cause : Cause) → Leads before h s → step s e ≡ Some t → closed_by before h n ≡ None → closing_cause n s e.event t.state ≡ Some cause
    → closed_by before (h ++ e ∷ []) n ≡ Some cause
closed_by_closing n before h s e t cause leads stepped none is = closed_by_more before h s e t n leads stepped ∙ (ap (λ o. option_or o (closing_cause n s e.event t.state)) none ∙ is)

-- why a stream closes a session
pub stream_cause_is : (what : Event) → (stream_cause what ≡ Damaged) ⊎ (stream_cause what ≡ Memory)
stream_cause_is Open = inr refl
stream_cause_is (Take session message) = inr refl
stream_cause_is Tick = inr refl
stream_cause_is (Close session InputEnded) = inr refl
stream_cause_is (Close session ReadFault) = inr refl
stream_cause_is (Close session WriteFault) = inr refl
stream_cause_is (Close session Damaged) = inl refl
stream_cause_is (Close session Overrun) = inr refl
stream_cause_is (Close session Memory) = inr refl

module _ (at n : ℕ) (before : State) where
  -- an entry of the stream closed it
  shut_by : (s : State) (h : List Entry) (e : Entry) (t : Stepped) (next : ℕ) (taken : List Message) (cause : Cause) → Leads before h s → step s e ≡ Some t → Turn n s e t.state (session_after false next taken (Some cause)) → stream_cause e.event ≡ cause → closed_by before h n ≡ None
      → StandsAfter n before (h ++ e ∷ []) t.state
  shut_by s h e t next taken cause leads stepped turn why none = stands_shut n before (h ++ e ∷ []) t.state (leads_more before h s e t leads stepped) turn.open_is (record {
    front = h;
    last = e;
    parts = refl;
    cause = closed_by_closing n before h s e t cause leads stepped none turn.cause_is ∙ ap (λ c. Some c) (sym why);
  })

  -- a failed allocation closed it
  by_memory : (s : State) (h : List Entry) (e : Entry) (t : Stepped) → Leads before h s → closed_by before h n ≡ None → IsEntryAt at s (Close n Memory) e t → StandsAfter n before (h ++ e ∷ []) t.state
  by_memory s h e t leads none enters = shut_by s h e t s.next [] Memory leads enters.step (turn_close n s e t enters.step Memory enters.event) (ap stream_cause enters.event) none

  -- damage closed it
  by_damage : (s : State) (h : List Entry) (e : Entry) (t : Stepped) → Leads before h s → closed_by before h n ≡ None → IsEntryAt at s (Close n Damaged) e t → StandsAfter n before (h ++ e ∷ []) t.state
  by_damage s h e t leads none enters = shut_by s h e t s.next [] Damaged leads enters.step (turn_close n s e t enters.step Damaged enters.event) (ap stream_cause enters.event) none

  -- time passed, and may have closed it because an allocation failed for its waiting transaction
  pub tick_stands : (s : State) (h : List Entry) (e : Entry) (t : Stepped) → Leads before h s → is_open s n ≡ true → closed_by before h n ≡ None → IsEntryAt at s Tick e t → StandsAfter n before (h ++ e ∷ []) t.state
  tick_stands s h e t leads there none enters = elim (turn_tick n s e t enters.step enters.event) [
    | inl turn ↦
        stands_open n before (h ++ e ∷ []) t.state (leads_more before h s e t leads enters.step) (turn.open_is ∙ there)
        (closed_by_more before h s e t n leads enters.step ∙ (ap (λ o. option_or o (closing_cause n s e.event t.state)) none ∙ turn.cause_is))
    | inr (was, turn) ↦ shut_by s h e t s.next [] Memory leads enters.step turn (ap stream_cause enters.event) none
  ]

  -- the entries of a piece
  pub feeds_stand : (s : State) (h : List Entry) (messages : List Message) (damaged : Bool) (entries : List Entry) (new : State) → Leads before h s → is_open s n ≡ true → closed_by before h n ≡ None
      → Feeds (delivered at n) s messages damaged entries new → StandsAfter n before (h ++ entries) new
  feeds_stand s h [] false [] new leads there none same = subst (λ (v : State). StandsAfter n before (h ++ []) v) (sym same) (subst (λ (l : List Entry). StandsAfter n before l s) (sym (append-nil h)) (stands_open n before h s leads there none))
  feeds_stand s h [] true [] new leads there none f = absurd f
  feeds_stand s h [] false (e ∷ []) new leads there none (t, inl enters, same) = subst (λ (v : State). StandsAfter n before (h ++ e ∷ []) v) (sym same) (by_memory s h e t leads none enters)
  feeds_stand s h [] false (e ∷ []) new leads there none (t, inr (bad, enters), same) = absurd (false≢true bad)
  feeds_stand s h [] true (e ∷ []) new leads there none (t, inl enters, same) = subst (λ (v : State). StandsAfter n before (h ++ e ∷ []) v) (sym same) (by_memory s h e t leads none enters)
  feeds_stand s h [] true (e ∷ []) new leads there none (t, inr (bad, enters), same) = subst (λ (v : State). StandsAfter n before (h ++ e ∷ []) v) (sym same) (by_damage s h e t leads none enters)
  feeds_stand s h [] false (e ∷ f ∷ entries) new leads there none k = absurd k
  feeds_stand s h [] true (e ∷ f ∷ entries) new leads there none k = absurd k
  feeds_stand s h (message ∷ messages) damaged [] new leads there none k = absurd k
  feeds_stand s h (message ∷ messages) damaged (e ∷ entries) new leads there none (t, inl (enters, no_more, same)) =
      subst (λ (v : State). StandsAfter n before (h ++ e ∷ entries) v) (sym same) (subst (λ (l : List Entry). StandsAfter n before (h ++ e ∷ l) t.state) (sym no_more) (by_memory s h e t leads none enters))
  feeds_stand s h (message ∷ messages) damaged (e ∷ entries) new leads there none (t, inr (enters, on)) =
      elim (turn_take n s e t enters.step message enters.event) [
        | inl turn ↦
            let there' : is_open t.state n ≡ true = turn.open_is ∙ there in
            let on' : Feeds (delivered at n) t.state messages damaged entries new = MatchBool-at_true (Feeds (delivered at n) t.state messages damaged entries new) ((entries ≡ []) × (new ≡ t.state)) there' on in
            let none' : closed_by before (h ++ e ∷ []) n ≡ None = closed_by_more before h s e t n leads enters.step ∙ (ap (λ o. option_or o (closing_cause n s e.event t.state)) none ∙ turn.cause_is) in
            subst (λ (l : List Entry). StandsAfter n before l new) (append_assoc h (e ∷ []) entries) (feeds_stand t.state (h ++ e ∷ []) messages damaged entries new (leads_more before h s e t leads enters.step) there' none' on')
        | inr (was, turn) ↦
            let last : (entries ≡ []) × (new ≡ t.state) = MatchBool-at_false (Feeds (delivered at n) t.state messages damaged entries new) ((entries ≡ []) × (new ≡ t.state)) turn.open_is on in
            subst (λ (v : State). StandsAfter n before (h ++ e ∷ entries) v) (sym last.1) (subst (λ (l : List Entry). StandsAfter n before (h ++ e ∷ l) t.state) (sym last.0)
            (shut_by s h e t s.next (message ∷ []) Memory leads enters.step turn (ap stream_cause enters.event) none))
      ]

-- ---- the last entry

-- a list that ends with this one
pub last_same : {A : Type 0} (front front' : List A) (x y : A) → front ++ x ∷ [] ≡ front' ++ y ∷ [] → x ≡ y
last_same [] [] x y h = cc
last_same [] (b ∷ []) x y h = cc
last_same [] (b ∷ c ∷ front') x y h = cc
last_same (a ∷ []) [] x y h = cc
last_same (a ∷ c ∷ front) [] x y h = cc
last_same (a ∷ front) (b ∷ front') x y h = last_same front front' x y (cc)
