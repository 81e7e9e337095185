-- What holds for each session while events arrive: its requests are those that its stream asks for.
use Rattle.std.proofs.Common.{◌≡◌, ◌≢◌, ℕ, ◌+◌, ◌<◌, ◌≤◌, List, [], ◌∷◌, ◌++◌, refl, sym, ap, subst, ◌∙◌, append_assoc, cond, eqb, Bool, true, false, Option, Some, None, inl, inr, arith}
use Rattle.std.specs.Prelude.{◌||◌, MatchBool}
use Rattle.std.proofs.lemmas.List.{append-nil}
use Rattle.std.proofs.lemmas.Bool.{cases_Bool, cases_eq, cases_lt, eq-eqb, ne_eqb, false≢true, MatchBool-at_true, MatchBool-at_false}
use Rattle.ov_specs.specs.wire.Cut.{cut}
use Rattle.ov_specs.specs.wire.Message.{Message, asked}
use Rattle.ov_specs.specs.machine.Machine.{State, Entry, Open, Close, Cause, InputEnded, Damaged, Memory, Stepped, step, is_open, opening}
use Rattle.ov_specs.specs.machine.History.{requests, closed_by}
use Rattle.std.specs.Option.{option_or}
use Rattle.ov_specs.specs.schema.SchemaTypes.{Schema}
use Rattle.ov_specs.specs.rows.Database.{Database}
use Rattle.ov_specs.specs.machine.Streams.{StreamEvent, Opens, Feed, Finish, Passes, Streams, no_streams, with_fed, IsEntryAt, Feeds, Expands, ExpandsTimed, FedState, delivered, fed_state}
use Rattle.ov_specs.proofs.laws.Histories.{Leads, leads_none, leads_more, option_or_none, requests_more, closed_by_more}
use Rattle.ov_specs.proofs.laws.Turns.{Turn, MayClose, turn_open, turn_tick, turn_close, turn_close_other, turn_take, turn_take_other, session_after}
use Rattle.ov_laws.specs.Requests.{AreAskedFor}
use Rattle.ov_specs.proofs.laws.Truths.{or_nothing}

-- What holds for a session, given whether it is open, the next serial, its stream, the requests taken from it and why it was
-- closed: one still to come has nothing, an open one has all that its stream asks for, a closed one keeps the law.
pub record Keeps (n : ℕ) (stream : List ℕ) (open' : Bool) (next : ℕ) (taken : List Message) (cause : Option Cause) : Type 0 where
  pub to_come : next ≤ n → (open' ≡ false) × (stream ≡ []) × (taken ≡ []) × (cause ≡ None)
  pub going : open' ≡ true → (cause ≡ None) × (taken ≡ (asked stream).messages) × ((asked stream).damaged ≡ false)
  pub gone : open' ≡ false → AreAskedFor cause taken (asked stream).messages

-- the same of a session in a state, after a history that led to it
pub record KeepsAt (before : State) (n : ℕ) (stream : List ℕ) (s : State) (h : List Entry) : Type 0 where
  pub leads : Leads before h s
  pub keeps : Keeps n stream (is_open s n) s.next (requests h n) (closed_by before h n)

-- ---- one entry

-- values that are the same keep the same
keeps_same : (n : ℕ) (stream : List ℕ) {a b : Bool} {i j : ℕ} {x y : List Message} {c d : Option Cause} → a ≡ b → i ≡ j → x ≡ y → c ≡ d → Keeps n stream a i x c → Keeps n stream b j y d
keeps_same n stream {a} {b} {i} {j} {x} {y} {c} {d} p q r t k =
    subst (λ (v : Option Cause). Keeps n stream b j y v) t
    (subst (λ (v : List Message). Keeps n stream b j v c) r
    (subst (λ (v : ℕ). Keeps n stream b v x c) q
    (subst (λ (v : Bool). Keeps n stream v i x c) p k)))

-- what one entry makes of a session
turned : (before : State) (n : ℕ) (stream : List ℕ) (s : State) (h : List Entry) (e : Entry) (t : Stepped) (o : Bool) (next : ℕ) (taken : List Message) (cause : Option Cause) → step s e ≡ Some t → Turn n s e t.state (session_after o next taken cause) → Leads before h s
    → Keeps n stream o next (requests h n ++ taken) (option_or (closed_by before h n) cause) → KeepsAt before n stream t.state (h ++ e ∷ [])
turned before n stream s h e t o next taken cause stepped turn leads k =
    let r : requests (h ++ e ∷ []) n ≡ requests h n ++ taken = requests_more h e n ∙ ap (λ l. requests h n ++ l) turn.taken_is in
    let c : closed_by before (h ++ e ∷ []) n ≡ option_or (closed_by before h n) cause = closed_by_more before h s e t n leads stepped ∙ ap (option_or (closed_by before h n)) turn.cause_is in
    record {
      leads = leads_more before h s e t leads stepped;
      keeps = keeps_same n stream (sym turn.open_is) (sym turn.next_is) (sym r) (sym c) k;
    }

-- an entry that is nothing to the session
aside : (before : State) (n : ℕ) (stream : List ℕ) (s : State) (h : List Entry) (e : Entry) (t : Stepped) → step s e ≡ Some t → Turn n s e t.state (session_after (is_open s n) s.next [] None) → KeepsAt before n stream s h → KeepsAt before n stream t.state (h ++ e ∷ [])
aside before n stream s h e t stepped turn k =
    turned before n stream s h e t (is_open s n) s.next [] None stepped turn k.leads (keeps_same n stream refl refl (sym (append-nil (requests h n))) (sym (option_or_none (closed_by before h n))) k.keeps)

-- a session that goes on is not one to come
opened_before : (n : ℕ) (stream : List ℕ) (o : Bool) (next : ℕ) (taken : List Message) (cause : Option Cause) → Keeps n stream o next taken cause → o ≡ true → n < next
opened_before n stream o next taken cause k there = elim (cases_lt n next) [
  | inl low ↦ low
  | inr high ↦ absurd (false≢true (sym (k.to_come high).0 ∙ there))
]

-- a session that is closed by this entry
shut : (before : State) (n : ℕ) (stream : List ℕ) (s : State) (h : List Entry) (e : Entry) (t : Stepped) (taken : List Message) (cause : Cause) → step s e ≡ Some t → Turn n s e t.state (session_after false s.next taken (Some cause)) → n < s.next → Leads before h s → closed_by before h n ≡ None
    → AreAskedFor (Some cause) (requests h n ++ taken) (asked stream).messages → KeepsAt before n stream t.state (h ++ e ∷ [])
shut before n stream s h e t taken cause stepped turn low leads none law =
    let c : Some cause ≡ option_or (closed_by before h n) (Some cause) = ap (λ o. option_or o (Some cause)) (sym none) in
    turned before n stream s h e t false s.next taken (Some cause) stepped turn leads (keeps_same n stream refl refl refl c (record {
      to_come = λ high. absurd (omega arith);
      going = λ there. absurd (false≢true there);
      gone = λ _. law;
    }))

-- an entry that takes nothing from the session, and may close it because an allocation failed
may_close : (before : State) (n : ℕ) (stream : List ℕ) (s : State) (h : List Entry) (e : Entry) (t : Stepped) → step s e ≡ Some t → MayClose n s e t [] → KeepsAt before n stream s h → KeepsAt before n stream t.state (h ++ e ∷ [])
may_close before n stream s h e t stepped (inl turn) k = aside before n stream s h e t stepped turn k
may_close before n stream s h e t stepped (inr (was, turn)) k =
    let low : n < s.next = opened_before n stream (is_open s n) s.next (requests h n) (closed_by before h n) k.keeps was in
    let (none, taken, whole) = k.keeps.going was in
    shut before n stream s h e t [] Memory stepped turn low k.leads none ([], append-nil (requests h n ++ []) ∙ (append-nil (requests h n) ∙ taken))

-- ---- a piece of the session's own stream

module _ (before : State) (at n : ℕ) (stream : List ℕ) where
  -- a piece brings these messages and no more
  all_taken : (s : State) (h : List Entry) → is_open s n ≡ true → n < s.next → Leads before h s → closed_by before h n ≡ None → requests h n ++ [] ≡ (asked stream).messages → (asked stream).damaged ≡ false → KeepsAt before n stream s h
  all_taken s h there low leads none is whole = record {
    leads = leads;
    keeps = record {
      to_come = λ high. absurd (omega arith);
      going = λ _. (none, sym (append-nil (requests h n)) ∙ is, whole);
      gone = λ away. absurd (false≢true (sym away ∙ there));
    };
  }

  -- a failed allocation closes it, with these messages still to be taken
  by_memory : (s : State) (h : List Entry) (messages : List Message) (e : Entry) (t : Stepped) → n < s.next → Leads before h s → closed_by before h n ≡ None → requests h n ++ messages ≡ (asked stream).messages → IsEntryAt at s (Close n Memory) e t → KeepsAt before n stream t.state (h ++ e ∷ [])
  by_memory s h messages e t low leads none is enters =
      shut before n stream s h e t [] Memory enters.step (turn_close n s e t enters.step Memory enters.event) low leads none (messages, ap (λ l. l ++ messages) (append-nil (requests h n)) ∙ is)

  -- damage closes it, after the last message
  by_damage : (s : State) (h : List Entry) (e : Entry) (t : Stepped) → n < s.next → Leads before h s → closed_by before h n ≡ None → requests h n ++ [] ≡ (asked stream).messages → IsEntryAt at s (Close n Damaged) e t → KeepsAt before n stream t.state (h ++ e ∷ [])
  by_damage s h e t low leads none is enters = shut before n stream s h e t [] Damaged enters.step (turn_close n s e t enters.step Damaged enters.event) low leads none is

  -- its own entries keep it
  feeds_own : (s : State) (h : List Entry) (messages : List Message) (damaged : Bool) (entries : List Entry) (new : State) → is_open s n ≡ true → n < s.next → Leads before h s → closed_by before h n ≡ None
      → requests h n ++ messages ≡ (asked stream).messages → (asked stream).damaged ≡ damaged → Feeds (delivered at n) s messages damaged entries new → KeepsAt before n stream new (h ++ entries)
  feeds_own s h [] false [] new there low leads none is d same = subst (λ (v : State). KeepsAt before n stream v (h ++ [])) (sym same) (subst (KeepsAt before n stream s) (sym (append-nil h)) (all_taken s h there low leads none is d))
  feeds_own s h [] true [] new there low leads none is d f = absurd f
  feeds_own s h [] false (e ∷ []) new there low leads none is d (t, inl enters, same) = subst (λ (v : State). KeepsAt before n stream v (h ++ e ∷ [])) (sym same) (by_memory s h [] e t low leads none is enters)
  feeds_own s h [] false (e ∷ []) new there low leads none is d (t, inr (bad, enters), same) = absurd (false≢true bad)
  feeds_own s h [] true (e ∷ []) new there low leads none is d (t, inl enters, same) = subst (λ (v : State). KeepsAt before n stream v (h ++ e ∷ [])) (sym same) (by_memory s h [] e t low leads none is enters)
  feeds_own s h [] true (e ∷ []) new there low leads none is d (t, inr (bad, enters), same) = subst (λ (v : State). KeepsAt before n stream v (h ++ e ∷ [])) (sym same) (by_damage s h e t low leads none is enters)
  feeds_own s h [] false (e ∷ f ∷ entries) new there low leads none is d k = absurd k
  feeds_own s h [] true (e ∷ f ∷ entries) new there low leads none is d k = absurd k
  feeds_own s h (message ∷ messages) damaged [] new there low leads none is d k = absurd k
  feeds_own s h (message ∷ messages) damaged (e ∷ entries) new there low leads none is d (t, inl (enters, no_more, same)) =
      subst (λ (v : State). KeepsAt before n stream v (h ++ e ∷ entries)) (sym same) (subst (λ (l : List Entry). KeepsAt before n stream t.state (h ++ e ∷ l)) (sym no_more) (by_memory s h (message ∷ messages) e t low leads none is enters))
  feeds_own s h (message ∷ messages) damaged (e ∷ entries) new there low leads none is d (t, inr (enters, on)) =
      let is' : (requests h n ++ message ∷ []) ++ messages ≡ (asked stream).messages = append_assoc (requests h n) (message ∷ []) messages ∙ is in
      elim (turn_take n s e t enters.step message enters.event) [
        | inl turn ↦
            let there' : is_open t.state n ≡ true = turn.open_is ∙ there in
            let on' : Feeds (delivered at n) t.state messages damaged entries new = MatchBool-at_true (Feeds (delivered at n) t.state messages damaged entries new) ((entries ≡ []) × (new ≡ t.state)) there' on in
            let r : requests (h ++ e ∷ []) n ≡ requests h n ++ message ∷ [] = requests_more h e n ∙ ap (λ l. requests h n ++ l) turn.taken_is in
            let c : closed_by before (h ++ e ∷ []) n ≡ None = closed_by_more before h s e t n leads enters.step ∙ (ap (option_or (closed_by before h n)) turn.cause_is ∙ (option_or_none (closed_by before h n) ∙ none)) in
            let low' : n < t.state.next = omega (arith, turn.next_is) in
            subst (KeepsAt before n stream new) (append_assoc h (e ∷ []) entries) (feeds_own t.state (h ++ e ∷ []) messages damaged entries new there' low' (leads_more before h s e t leads enters.step) c (ap (λ l. l ++ messages) r ∙ is') d on')
        | inr (was, turn) ↦
            let last : (entries ≡ []) × (new ≡ t.state) = MatchBool-at_false (Feeds (delivered at n) t.state messages damaged entries new) ((entries ≡ []) × (new ≡ t.state)) turn.open_is on in
            subst (λ (v : State). KeepsAt before n stream v (h ++ e ∷ entries)) (sym last.1) (subst (λ (l : List Entry). KeepsAt before n stream t.state (h ++ e ∷ l)) (sym last.0)
            (shut before n stream s h e t (message ∷ []) Memory enters.step turn low leads none (messages, is')))
      ]

-- ---- a piece of another session's stream

module _ (before : State) (at n : ℕ) (stream : List ℕ) (m : ℕ) (other : m ≢ n) where
  -- the other session is closed
  closes_other : (s : State) (h : List Entry) (cause : Cause) (e : Entry) (t : Stepped) → IsEntryAt at s (Close m cause) e t → KeepsAt before n stream s h → KeepsAt before n stream t.state (h ++ e ∷ [])
  closes_other s h cause e t enters k = aside before n stream s h e t enters.step (turn_close_other n s e t enters.step m cause other enters.event) k

  -- its entries keep this one
  feeds_other : (s : State) (h : List Entry) (messages : List Message) (damaged : Bool) (entries : List Entry) (new : State) → KeepsAt before n stream s h → Feeds (delivered at m) s messages damaged entries new → KeepsAt before n stream new (h ++ entries)
  feeds_other s h [] false [] new k same = subst (λ (v : State). KeepsAt before n stream v (h ++ [])) (sym same) (subst (KeepsAt before n stream s) (sym (append-nil h)) k)
  feeds_other s h [] true [] new k f = absurd f
  feeds_other s h [] false (e ∷ []) new k (t, inl enters, same) = subst (λ (v : State). KeepsAt before n stream v (h ++ e ∷ [])) (sym same) (closes_other s h Memory e t enters k)
  feeds_other s h [] false (e ∷ []) new k (t, inr (bad, enters), same) = absurd (false≢true bad)
  feeds_other s h [] true (e ∷ []) new k (t, inl enters, same) = subst (λ (v : State). KeepsAt before n stream v (h ++ e ∷ [])) (sym same) (closes_other s h Memory e t enters k)
  feeds_other s h [] true (e ∷ []) new k (t, inr (bad, enters), same) = subst (λ (v : State). KeepsAt before n stream v (h ++ e ∷ [])) (sym same) (closes_other s h Damaged e t enters k)
  feeds_other s h [] false (e ∷ f ∷ entries) new k x = absurd x
  feeds_other s h [] true (e ∷ f ∷ entries) new k x = absurd x
  feeds_other s h (message ∷ messages) damaged [] new k x = absurd x
  feeds_other s h (message ∷ messages) damaged (e ∷ entries) new k (t, inl (enters, no_more, same)) =
      subst (λ (v : State). KeepsAt before n stream v (h ++ e ∷ entries)) (sym same) (subst (λ (l : List Entry). KeepsAt before n stream t.state (h ++ e ∷ l)) (sym no_more) (closes_other s h Memory e t enters k))
  feeds_other s h (message ∷ messages) damaged (e ∷ entries) new k (t, inr (enters, on)) =
      let k' : KeepsAt before n stream t.state (h ++ e ∷ []) = may_close before n stream s h e t enters.step (turn_take_other n s e t enters.step m message other enters.event) k in
      elim (cases_Bool (is_open t.state m)) [
        | inl there ↦
            let on' : Feeds (delivered at m) t.state messages damaged entries new = MatchBool-at_true (Feeds (delivered at m) t.state messages damaged entries new) ((entries ≡ []) × (new ≡ t.state)) there on in
            subst (KeepsAt before n stream new) (append_assoc h (e ∷ []) entries) (feeds_other t.state (h ++ e ∷ []) messages damaged entries new k' on')
        | inr away ↦
            let last : (entries ≡ []) × (new ≡ t.state) = MatchBool-at_false (Feeds (delivered at m) t.state messages damaged entries new) ((entries ≡ []) × (new ≡ t.state)) away on in
            subst (λ (v : State). KeepsAt before n stream v (h ++ e ∷ entries)) (sym last.1) (subst (λ (l : List Entry). KeepsAt before n stream t.state (h ++ e ∷ l)) (sym last.0) k')
      ]

-- ---- one stream event

-- nothing comes of the event
nothing : (before : State) (n : ℕ) (s : State) (streams : Streams) (h k : List Entry) (new : State) (after : Streams) → (k ≡ []) × (new ≡ s) × (after ≡ streams) → KeepsAt before n (streams n) s h → KeepsAt before n (after n) new (h ++ k)
nothing before n s streams h k new after (none, state, same) keeps =
    subst (λ (f : Streams). KeepsAt before n (f n) new (h ++ k)) (sym same)
    (subst (λ (v : State). KeepsAt before n (streams n) v (h ++ k)) (sym state)
    (subst (λ (l : List Entry). KeepsAt before n (streams n) s (h ++ l)) (sym none) (subst (KeepsAt before n (streams n) s) (sym (append-nil h)) keeps)))

-- one entry comes of the event
single : (before : State) (n : ℕ) (streams : Streams) (h k : List Entry) (e : Entry) (t : Stepped) (new : State) (after : Streams) → k ≡ e ∷ [] → new ≡ t.state → after ≡ streams → KeepsAt before n (streams n) t.state (h ++ e ∷ []) → KeepsAt before n (after n) new (h ++ k)
single before n streams h k e t new after one state same keeps =
    subst (λ (f : Streams). KeepsAt before n (f n) new (h ++ k)) (sym same)
    (subst (λ (v : State). KeepsAt before n (streams n) v (h ++ k)) (sym state)
    (subst (λ (l : List Entry). KeepsAt before n (streams n) t.state (h ++ l)) (sym one) keeps))

-- the empty stream asks for nothing
pub asked_nothing : (asked [] ≡ record { messages = []; damaged = false })
unfolding asked cut
asked_nothing = refl

-- a session that opens has asked for nothing
opens_own : (before : State) (n : ℕ) (stream : List ℕ) (s : State) (h : List Entry) (e : Entry) (t : Stepped) → step s e ≡ Some t → Turn n s e t.state (session_after (is_open s n || eqb s.next n) (s.next + 1) [] None) → s.next ≡ n → KeepsAt before n stream s h
    → KeepsAt before n stream t.state (h ++ e ∷ [])
opens_own before n stream s h e t stepped turn is k =
    let (away, none_fed, none_taken, none) = k.keeps.to_come (omega arith) in
    let nothing_asked : asked stream ≡ record { messages = []; damaged = false } = ap asked none_fed ∙ asked_nothing in
    turned before n stream s h e t (is_open s n || eqb s.next n) (s.next + 1) [] None stepped turn k.leads (record {
      to_come = λ high. absurd (omega arith);
      going = λ _. (option_or_none (closed_by before h n) ∙ none, append-nil (requests h n) ∙ (none_taken ∙ sym (ap (λ a. a.messages) nothing_asked)), ap (λ a. a.damaged) nothing_asked);
      gone = λ no_way. absurd (false≢true (sym no_way ∙ (ap (λ b. is_open s n || b) (eq-eqb s.next n is) ∙ ap (λ b. b || true) away)));
    })

-- another session opens
opens_other : (before : State) (n : ℕ) (stream : List ℕ) (s : State) (h : List Entry) (e : Entry) (t : Stepped) → step s e ≡ Some t → Turn n s e t.state (session_after (is_open s n || eqb s.next n) (s.next + 1) [] None) → s.next ≢ n → KeepsAt before n stream s h
    → KeepsAt before n stream t.state (h ++ e ∷ [])
opens_other before n stream s h e t stepped turn ne k =
    let o : is_open s n ≡ (is_open s n || eqb s.next n) = sym (ap (λ b. is_open s n || b) (ne_eqb s.next n ne) ∙ or_nothing (is_open s n)) in
    let later : Keeps n stream (is_open s n) (s.next + 1) (requests h n) (closed_by before h n) = record { to_come = λ high. k.keeps.to_come (omega arith); going = k.keeps.going; gone = k.keeps.gone } in
    turned before n stream s h e t (is_open s n || eqb s.next n) (s.next + 1) [] None stepped turn k.leads (keeps_same n stream o refl (sym (append-nil (requests h n))) (sym (option_or_none (closed_by before h n))) later)

-- what a stream event comes to: its entries, and the state and the streams after them
record Expansion : Type 0 where
  pub entries : List Entry
  pub state : State
  pub streams : Streams

-- what comes of an event that is nothing to a state
abbrev Stays : State → Streams → Expansion → Type 0
Stays s streams made = (made.entries ≡ []) × (made.state ≡ s) × (made.streams ≡ streams)

-- what comes of the end of an open session's bytes
abbrev Ended : ℕ → State → Streams → ℕ → Expansion → Type 0
Ended at s streams m made =
    (e : Entry) × (t : Stepped) × (made.entries ≡ e ∷ []) × IsEntryAt at s (Close m InputEnded) e t × (made.state ≡ t.state) × (made.streams ≡ streams)

-- what comes of bytes of an open session
abbrev Pieces : ℕ → State → Streams → ℕ → List ℕ → Expansion → Type 0
Pieces at s streams m bytes made =
    (messages : List Message) × ((asked (streams m ++ bytes)).messages ≡ (asked (streams m)).messages ++ messages)
    × Feeds (delivered at m) s messages (asked (streams m ++ bytes)).damaged made.entries made.state × (made.streams ≡ with_fed streams m bytes)

module _ (before : State) (at n : ℕ) (s : State) (streams : Streams) (h k : List Entry) (new : State) (after : Streams) (keeps : KeepsAt before n (streams n) s h) where
  abbrev made : Expansion
  made = record { entries = k; state = new; streams = after }

  -- a session opens
  expands_open : (e : Entry) (t : Stepped) → k ≡ e ∷ [] → IsEntryAt at s Open e t → new ≡ t.state → after ≡ streams → KeepsAt before n (after n) new (h ++ k)
  expands_open e t one enters state same = single before n streams h k e t new after one state same (elim (cases_eq s.next n) [
    | inl is ↦ opens_own before n (streams n) s h e t enters.step (turn_open n s e t enters.step enters.event) is keeps
    | inr ne ↦ opens_other before n (streams n) s h e t enters.step (turn_open n s e t enters.step enters.event) ne keeps
  ])

  -- the bytes of the session end
  ended_own : is_open s n ≡ true → Ended at s streams n made → KeepsAt before n (after n) new (h ++ k)
  ended_own there (e, t, one, enters, state, same) =
      let low : n < s.next = opened_before n (streams n) (is_open s n) s.next (requests h n) (closed_by before h n) keeps.keeps there in
      let (none, taken, whole) = keeps.keeps.going there in
      single before n streams h k e t new after one state same
      (shut before n (streams n) s h e t [] InputEnded enters.step (turn_close n s e t enters.step InputEnded enters.event) low keeps.leads none (append-nil (requests h n) ∙ taken))

  -- the bytes of another session end
  ended_other : (m : ℕ) → m ≢ n → Ended at s streams m made → KeepsAt before n (after n) new (h ++ k)
  ended_other m ne (e, t, one, enters, state, same) = single before n streams h k e t new after one state same (closes_other before at n (streams n) m ne s h InputEnded e t enters keeps)

  -- bytes of the session come
  pieces_own : (bytes : List ℕ) → is_open s n ≡ true → Pieces at s streams n bytes made → KeepsAt before n (after n) new (h ++ k)
  pieces_own bytes there (messages, split, feeds, same) =
      let low : n < s.next = opened_before n (streams n) (is_open s n) s.next (requests h n) (closed_by before h n) keeps.keeps there in
      let (none, taken, whole) = keeps.keeps.going there in
      let then_is : after n ≡ streams n ++ bytes = ap (λ (f : Streams). f n) same ∙ ap (λ b. cond b (streams n ++ bytes) (streams n)) (eq-eqb n n refl) in
      subst (λ (l : List ℕ). KeepsAt before n l new (h ++ k)) (sym then_is)
      (feeds_own before at n (streams n ++ bytes) s h messages (asked (streams n ++ bytes)).damaged k new there low keeps.leads none (ap (λ l. l ++ messages) taken ∙ sym split) refl feeds)

  -- bytes of another session come
  pieces_other : (m : ℕ) (bytes : List ℕ) → m ≢ n → Pieces at s streams m bytes made → KeepsAt before n (after n) new (h ++ k)
  pieces_other m bytes ne (messages, split, feeds, same) =
      let then_is : after n ≡ streams n = ap (λ (f : Streams). f n) same ∙ ap (λ b. cond b (streams n ++ bytes) (streams n)) (ne_eqb n m (λ e. ne (sym e))) in
      subst (λ (l : List ℕ). KeepsAt before n l new (h ++ k)) (sym then_is) (feeds_other before at n (streams n) m ne s h messages (asked (streams m ++ bytes)).damaged k new keeps feeds)

  -- the bytes of a session end
  expands_finish : (m : ℕ) → MatchBool (is_open s m) (Ended at s streams m made) (Stays s streams made) → KeepsAt before n (after n) new (h ++ k)
  expands_finish m x = elim (cases_Bool (is_open s m)) [
    | inl there ↦
        let y : Ended at s streams m made = MatchBool-at_true (Ended at s streams m made) (Stays s streams made) there x in
        elim (cases_eq m n) [
          | inl is ↦ ended_own (ap (is_open s) (sym is) ∙ there) (subst (λ (v : ℕ). Ended at s streams v made) is y)
          | inr ne ↦ ended_other m ne y
        ]
    | inr away ↦ nothing before n s streams h k new after (MatchBool-at_false (Ended at s streams m made) (Stays s streams made) away x) keeps
  ]

  -- bytes of a session come
  expands_feed : (m : ℕ) (bytes : List ℕ) → MatchBool (is_open s m) (Pieces at s streams m bytes made) (Stays s streams made) → KeepsAt before n (after n) new (h ++ k)
  expands_feed m bytes x = elim (cases_Bool (is_open s m)) [
    | inl there ↦
        let y : Pieces at s streams m bytes made = MatchBool-at_true (Pieces at s streams m bytes made) (Stays s streams made) there x in
        elim (cases_eq m n) [
          | inl is ↦ pieces_own bytes (ap (is_open s) (sym is) ∙ there) (subst (λ (v : ℕ). Pieces at s streams v bytes made) is y)
          | inr ne ↦ pieces_other m bytes ne y
        ]
    | inr away ↦ nothing before n s streams h k new after (MatchBool-at_false (Pieces at s streams m bytes made) (Stays s streams made) away x) keeps
  ]

-- a stream event keeps it
expands : (before : State) (at n : ℕ) (s : State) (streams : Streams) (event : StreamEvent) (h k : List Entry) (new : State) (after : Streams) → KeepsAt before n (streams n) s h → Expands at (fed_state s streams) event k (fed_state new after) → KeepsAt before n (after n) new (h ++ k)
expands before at n s streams Opens h k new after keeps (e, t, one, enters, state, same) = expands_open before at n s streams h k new after keeps e t one enters state same
expands before at n s streams (Feed m bytes) h k new after keeps x = expands_feed before at n s streams h k new after keeps m bytes x
expands before at n s streams (Finish m) h k new after keeps x = expands_finish before at n s streams h k new after keeps m x
expands before at n s streams (Passes ms) h k new after keeps (e, t, one, enters, state, same) =
    single before n streams h k e t new after one state same (may_close before n (streams n) s h e t enters.step (turn_tick n s e t enters.step enters.event) keeps)

-- ---- all stream events

-- a list of stream events keeps it
expands_all : (before : State) (n : ℕ) (s : State) (streams : Streams) (events : List (ℕ × StreamEvent)) (h k : List Entry) (new : State) (after : Streams) → KeepsAt before n (streams n) s h → ExpandsTimed (fed_state s streams) events k (fed_state new after) → KeepsAt before n (after n) new (h ++ k)
expands_all before n s streams [] h k new after keeps (none, same) = nothing before n s streams h k new after (none, ap (λ (f : FedState). f.state) same, ap (λ (f : FedState). f.streams) same) keeps
expands_all before n s streams (event ∷ events) h k new after keeps (front, rest, between, parts, one, others) =
    subst (KeepsAt before n (after n) new) (append_assoc h front rest ∙ ap (λ (l : List Entry). h ++ l) (sym parts))
    (expands_all before n between.state between.streams events (h ++ front) rest new after (expands before event.0 n s streams event.1 h front between.state between.streams keeps one) others)

-- before a session is opened
at_first : (s : State) (streams : Streams) (n : ℕ) → is_open s n ≡ false → streams n ≡ [] → KeepsAt s n (streams n) s []
at_first s streams n shut unfed = record {
  leads = leads_none s;
  keeps = record {
    to_come = λ high. (shut, unfed, refl, refl);
    going = λ there. absurd (false≢true (sym shut ∙ there));
    gone = λ away. sym (ap (λ l. (asked l).messages) unfed ∙ ap (λ a. a.messages) asked_nothing);
  };
}

-- what was taken from a session is what its stream asks for
pub requests_are_asked_for : (before : State) (fed : Streams) (events : List (ℕ × StreamEvent)) (h : List Entry) (s : State) (streams : Streams) (n : ℕ)
    → is_open before n ≡ false → fed n ≡ [] → ExpandsTimed (fed_state before fed) events h (fed_state s streams) → AreAskedFor (closed_by before h n) (requests h n) (asked (streams n)).messages
requests_are_asked_for before fed events h s streams n shut unfed x =
    let keeps : KeepsAt before n (streams n) s h = expands_all before n before fed events [] h s streams (at_first before fed n shut unfed) x in
    elim (cases_Bool (is_open s n)) [
      | inl there ↦
          let (none, taken, whole) = keeps.keeps.going there in
          subst (λ (o : Option Cause). AreAskedFor o (requests h n) (asked (streams n)).messages) (sym none) taken
      | inr away ↦ keeps.keeps.gone away
    ]

-- a session that is not opened yet has no stream
pub not_fed_yet : (schema : Schema) (database : Database) (events : List (ℕ × StreamEvent)) (h : List Entry) (s : State) (streams : Streams) (n : ℕ) → ExpandsTimed (fed_state (opening schema database) no_streams) events h (fed_state s streams) → s.next ≤ n → streams n ≡ []
not_fed_yet schema database events h s streams n x high = ((expands_all (opening schema database) n (opening schema database) no_streams events [] h s streams (at_first (opening schema database) no_streams n refl refl) x).keeps.to_come high).1
