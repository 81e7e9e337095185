-- How messages of a session go into the history.
use Rattle.std.proofs.Common.{◌≡◌, ℕ, List, [], ◌∷◌, ◌++◌, refl, sym, ap, subst, ◌∙◌, Bool, true, false, append_assoc, inl, inr, max}
use Rattle.std.specs.Prelude.{◌&&◌, MatchBool}
use Rattle.std.specs.List.{list_all}
use Rattle.std.proofs.lemmas.List.{append-nil}
use Rattle.std.proofs.lemmas.List.Folds.{list_all-append}
use Rattle.std.proofs.lemmas.Bool.{eq-eqb, and_from, false≢true}
use Rattle.ov_specs.specs.wire.Message.{Message}
use Rattle.ov_specs.specs.machine.Machine as machine
use Rattle.ov_specs.specs.machine.Machine.{State, Entry, Stepped, is_open}
use Rattle.ov_specs.specs.values.Uuid.{Uuid}
use Rattle.ov_specs.specs.machine.Streams as streams
use Rattle.ov_specs.specs.machine.Streams.{Feeds, delivered}
use Rattle.ov_specs.proofs.laws.Turns.{turn_close}
use Rattle.ov_history.specs.declared.event.Stepped.{Stepped as Reply}
use Rattle.ov_history.specs.declared.event.Stepped.TheVariants as answer
use Rattle.ov_history.specs.declared.event.StepFault.TheVariants as fault
use Rattle.ov_core.specs.Following.{CoreState, Follows, Extends}
use Rattle.ov_core.specs.Stepping.{StepIs, IsEntered}
use Rattle.ov_core.proofs.Counted.{counts_none, counts_on}
use Rattle.ov_history.proofs.Histories.{keeps_on}
use Rattle.ov_streams.specs.Feeding.{is_event_of, is_entry_of}
use Rattle.ov_streams.specs.Entering.{ExtendsByStep, ClosesByEntry, EntersMessage, EntersMessages}

-- ---- what a step of the core is

adds : {K D : Type 0} {draws : D → Uuid → D → Type 0} {at : ℕ} {event : machine.Event} {old new : CoreState K D} {r : Reply} (e : IsEntered draws at event old r new)
    → ExtendsByStep old e.entry (record { state = new.state; sent = e.moves.sent }) new
adds e = record { state = refl; enters = e.moves.follows }

-- the session is open, so a closing of it is entered
pub shuts : {K D : Type 0} (draws : D → Uuid → D → Type 0) (at n : ℕ) (cause : machine.Cause) (old new : CoreState K D) (r : Reply) → is_open old.state n ≡ true
    → StepIs draws (max at old.state.moment) (machine.Close n cause) old r new → ClosesByEntry at n cause old new
shuts draws at n cause old new (answer.Opened session) there e = absurd e.tells
shuts draws at n cause old new answer.Done there e = let t : Stepped = record { state = new.state; sent = e.moves.sent } in record {
  entry = e.entry;
  step = t;
  adds = adds e;
  is = record { event = e.tells; moment = e.moment; step = e.moves.stepped };
  shut = (turn_close n old.state e.entry t e.moves.stepped cause e.tells).open_is;
}
shuts draws at n cause old new answer.Closed there e = absurd e.tells
shuts draws at n cause old new (answer.Refused fault.TooMany) there (same, why) = absurd why
shuts draws at n cause old new (answer.Refused fault.Memory) there (same, why) = absurd why
shuts draws at n cause old new (answer.Refused fault.NotOpen) there (same, why) = absurd (false≢true (sym why ∙ there))

-- the session is open, so its message is taken, or it is closed when out of memory
pub took : {K D : Type 0} (draws : D → Uuid → D → Type 0) (at n : ℕ) (message : Message) (old new : CoreState K D) (r : Reply) → is_open old.state n ≡ true
    → StepIs draws (max at old.state.moment) (machine.Take n message) old r new → EntersMessage at n message old new
took draws at n message old new (answer.Opened session) there e = absurd e.tells
took draws at n message old new answer.Done there e = record {
  entry = e.entry;
  step = record { state = new.state; sent = e.moves.sent };
  adds = adds e;
  outcome = inl (record { event = e.tells.0; moment = e.moment; step = e.moves.stepped });
}
took draws at n message old new answer.Closed there e = record {
  entry = e.entry;
  step = record { state = new.state; sent = e.moves.sent };
  adds = adds e;
  outcome = elim e.tells.0 [
    | inl taken ↦ inl (record { event = taken; moment = e.moment; step = e.moves.stepped })
    | inr closed ↦ inr (e.tells.1, record { event = closed; moment = e.moment; step = e.moves.stepped })
  ];
}
took draws at n message old new (answer.Refused fault.TooMany) there (same, why) = absurd why
took draws at n message old new (answer.Refused fault.Memory) there (same, why) = absurd why
took draws at n message old new (answer.Refused fault.NotOpen) there (same, why) = absurd (false≢true (sym why ∙ there))

-- ---- what comes of one message, before others

-- a failed allocation closes the session, whatever was to come
pub by_memory : (at : ℕ) (s : State) (n : ℕ) (ms : List Message) (d : Bool) (e : Entry) (t : Stepped) → streams.IsEntryAt at s (machine.Close n machine.Memory) e t → Feeds (delivered at n) s ms d (e ∷ []) t.state
by_memory at s n [] true e t h = (t, inl h, refl)
by_memory at s n [] false e t h = (t, inl h, refl)
by_memory at s n (m ∷ ms) d e t h = (t, inl (h, refl, refl))

at_test : (b c : Bool) (P Q : Type 0) → b ≡ c → MatchBool c P Q → MatchBool b P Q
at_test b c P Q e h = subst (λ (x : Bool). MatchBool x P Q) (sym e) h

-- ---- the loop

pub enters_none : {K D : Type 0} (core : CoreState K D) → Extends core [] core
enters_none core = record { follows = λ before history given h. subst (λ (k : List Entry). Follows before k given core) (sym (append-nil history)) h; keeps = refl; counts = counts_none core }

pub enters_more : {K D : Type 0} (old mid new : CoreState K D) (entries more : List Entry) → Extends old entries mid → Extends mid more new → Extends old (entries ++ more) new
enters_more old mid new entries more one two = record {
  follows = λ before history given h. subst (λ (k : List Entry). Follows before k given new) (append_assoc history entries more) (two.follows before (history ++ entries) given (one.follows before history given h));
  keeps = keeps_on old.kept mid.kept new.kept entries more one.keeps two.keeps;
  counts = counts_on old mid new entries more one.counts two.counts;
}

-- one more entry of the session
pub own_more : (n : ℕ) (entries : List Entry) (entry : Entry) → list_all (is_entry_of n) entries ≡ true → is_entry_of n entry ≡ true → list_all (is_entry_of n) (entries ++ entry ∷ []) ≡ true
own_more n entries entry own its =
    list_all-append (is_entry_of n) entries (entry ∷ []) ∙ and_from (list_all (is_entry_of n) entries) (is_entry_of n entry && true) own (and_from (is_entry_of n entry) true its refl)

-- Of all these messages those before the rest were entered. What comes of the rest, whatever follows them, goes on from there.
pub record EntersSome {K D : Type 0} (at n : ℕ) (all rest : List Message) (first now : CoreState K D) : Type 0 where
  pub entries : List Entry
  pub own : list_all (is_entry_of n) entries ≡ true
  pub enters : Extends first entries now
  pub goes_on : (others : List Message) (damaged : Bool) (more : List Entry) (last : State)
      → Feeds (delivered at n) now.state (rest ++ others) damaged more last → Feeds (delivered at n) first.state (all ++ others) damaged (entries ++ more) last

-- no message was entered
pub none_entered : {K D : Type 0} (at n : ℕ) (all rest : List Message) (core : CoreState K D) → rest ≡ all → EntersSome at n all rest core core
none_entered at n all rest core is = subst (λ (messages : List Message). EntersSome at n all messages core core) (sym is) (record { entries = []; own = refl; enters = enters_none core; goes_on = λ others damaged more last f. f })

module _ {K D : Type 0} (at n : ℕ) (first now new : CoreState K D) (all rest later : List Message) (message : Message) (is : rest ≡ message ∷ later) (some : EntersSome at n all rest first now) (one : EntersMessage at n message now new) where
  abbrev entries : List Entry
  entries = some.entries ++ one.entry ∷ []

  enters_it : Extends first entries new
  enters_it = enters_more first now new some.entries (one.entry ∷ []) some.enters one.adds.enters

  own_it : list_all (is_entry_of n) entries ≡ true
  own_it = own_more n some.entries one.entry some.own (elim one.outcome [
    | inl taken ↦ ap (is_event_of n) taken.event ∙ eq-eqb n n refl
    | inr (shut, closed) ↦ ap (is_event_of n) closed.event ∙ eq-eqb n n refl
  ])

  -- what comes of the message and of others after it
  with_it : (others : List Message) (damaged : Bool) (more : List Entry) (last : State) → Feeds (delivered at n) now.state (message ∷ (later ++ others)) damaged (one.entry ∷ more) last
      → Feeds (delivered at n) first.state (all ++ others) damaged (entries ++ more) last
  with_it others damaged more last f =
      subst (λ (k : List Entry). Feeds (delivered at n) first.state (all ++ others) damaged k last) (sym (append_assoc some.entries (one.entry ∷ []) more))
      (some.goes_on others damaged (one.entry ∷ more) last (subst (λ (ms : List Message). Feeds (delivered at n) now.state (ms ++ others) damaged (one.entry ∷ more) last) (sym is) f))

  -- the session is still open
  pub message_entered : is_open new.state n ≡ true → EntersSome at n all later first new
  message_entered there = record {
    entries = entries;
    own = own_it;
    enters = enters_it;
    goes_on = λ others damaged more last f. elim one.outcome [
      | inl taken ↦
          with_it others damaged more last (
            one.step,
            inr (
              taken,
              at_test _ true _ _ (ap (λ (s : State). is_open s n) one.adds.state ∙ there)
                  (subst (λ (s : State). Feeds (delivered at n) s (later ++ others) damaged more last) (sym one.adds.state) f),
            ),
          )
      | inr (shut, closed) ↦ absurd (false≢true (sym shut ∙ (ap (λ (s : State). is_open s n) one.adds.state ∙ there)))
    ];
  }

  -- the session was closed
  pub ended : is_open new.state n ≡ false → EntersMessages at n all first new
  ended away = record {
    entries = entries;
    own = own_it;
    enters = enters_it;
    goes_on = λ there. absurd (false≢true (sym away ∙ there));
    ends = λ _ others damaged.
        let last : Feeds (delivered at n) now.state (message ∷ (later ++ others)) damaged (one.entry ∷ []) one.step.state = elim one.outcome [
          | inl taken ↦ (one.step, inr (taken, at_test _ false _ _ (ap (λ (s : State). is_open s n) one.adds.state ∙ away) (refl, refl)))
          | inr (shut, closed) ↦ by_memory at now.state n (message ∷ (later ++ others)) damaged one.entry one.step closed
        ] in
        subst (λ (k : List Entry). Feeds (delivered at n) first.state (all ++ others) damaged k new.state) (append-nil entries)
        (with_it others damaged [] new.state (subst (λ (s : State). Feeds (delivered at n) now.state (message ∷ (later ++ others)) damaged (one.entry ∷ []) s) one.adds.state last));
  }

-- all messages were entered, and the session is open
pub all_entered : {K D : Type 0} (at n : ℕ) (first now : CoreState K D) (all rest : List Message) → rest ≡ [] → EntersSome at n all rest first now → is_open now.state n ≡ true → EntersMessages at n all first now
all_entered at n first now all rest none some there =
    let whole : EntersSome at n all [] first now = subst (λ (later : List Message). EntersSome at n all later first now) none some in
    record {
      entries = whole.entries;
      own = whole.own;
      enters = whole.enters;
      goes_on = λ _. whole.goes_on;
      ends = λ away. absurd (false≢true (sym away ∙ there));
    }

-- a session that is open was closed
pub it_closed : (b o : Bool) (P Q : Type 0) → MatchBool b P (Q × (o ≡ false)) → o ≡ true → P
it_closed true o P Q h there = h
it_closed false o P Q h there = absurd (false≢true (sym h.1 ∙ there))
