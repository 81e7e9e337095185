-- What entries, and frames that are handed out, make of a core and of its sessions.
use Rattle.std.proofs.Common.{◌≡◌, ◌≢◌, inl, inr, ℕ, List, [], ◌∷◌, ◌++◌, refl, sym, ap, subst, ◌∙◌, append_assoc, append-nil, cond, eqb, map, Bool, true, false, Option, Some, Result, Ok, Err}
use Rattle.std.specs.Prelude.{option_to_list, max, IfOk, IfErr}
use Rattle.std.specs.Option.{option_or}
use Rattle.std.proofs.lemmas.Bool.{cases_eq, eq-eqb, ne_eqb}
use Rattle.ov_specs.specs.wire.Message.{Message}
use Rattle.ov_specs.specs.values.Uuid.{Uuid}
use Rattle.ov_specs.specs.machine.Machine as machine
use Rattle.ov_specs.specs.machine.Machine.{State, Sent, Entry, Stepped, step, is_open, Close, Take, Tick}
use Rattle.ov_specs.specs.machine.History.{frames_to, requests, taken_by, closed_by, closing_cause}
use Rattle.ov_specs.proofs.laws.Histories.{run_more, requests_more, closed_by_more, option_or_none}
use Rattle.ov_specs.proofs.laws.Queueing.{InOrder, run_in_order}
use Rattle.ov_specs.proofs.laws.Turns.{MayClose, turn_close, turn_close_other, turn_take, turn_take_other, turn_tick, open_to_take}
use Rattle.ov_outbox.specs.Frames.{waiting_for}
use Rattle.ov_outbox.proofs.Answered.{frames_to-append}
use Rattle.ov_history.specs.declared.event.Cause.{Cause}
use Rattle.ov_history.specs.declared.event.Stepped.{Stepped as Reply}
use Rattle.ov_history.specs.declared.event.Stepped.TheVariants as answer
use Rattle.ov_history.specs.declared.event.StepFault.{StepFault}
use Rattle.ov_history.specs.declared.event.StepFault.TheVariants as fault
use Rattle.ov_history.specs.Entries.{cause_view, entry_view}
use Rattle.ov_core.specs.Following.{CoreState, Follows, CountsWork, EntersEntry, and_handed, and_all_handed}
use Rattle.ov_core.specs.Stepping.{StepIs, RefusesStep, Closes, closing}
use Rattle.ov_core.specs.Passing.{is_due, TicksIf}
use Rattle.ov_core.proofs.Counted.{counts_none, counts_same, counts_on}
use Rattle.ov_history.proofs.Histories.{keeps_on}
use Rattle.ov_lanes.specs.Courses.{Course, Spares, shut_in, shut_by}
use Rattle.ov_lanes.specs.Moments.{IsAtMoment, AreTimed}
use Rattle.ov_lanes.specs.Since.{HandsOut, and_then_handed, Since, course_of, Goes}
use Rattle.ov_lanes.specs.Moving.{ClosesOnce}
use Rattle.ov_lanes.proofs.Own.{spares_same, spares_along, OwnHanded, OwnClosed, OwnTook}
use Rattle.ov_lanes.proofs.Timing.{timed_one, at_moment, timed_append}
use Rattle.ov_lanes.proofs.Silence.{away_silent, close_spares, close_of_open, known_in_order}

-- the same frames were given
pub given_same : {K D : Type 0} (before : State) (history : List Entry) (given given' : ℕ → List (List ℕ)) (core : CoreState K D) → ((s : ℕ) → given s ≡ given' s) → Follows before history given core → Follows before history given' core
given_same before history given given' core same f = record {
  sent = f.sent;
  legal = f.legal;
  kept = f.kept;
  issued = λ s. f.issued s ∙ ap (λ (fs : List (List ℕ)). fs ++ waiting_for s core.outbox) (same s);
}

-- ---- an entry

-- one entry more
shut_more : (h : List Entry) (e : Entry) (n : ℕ) → shut_by (h ++ e ∷ []) n ≡ shut_by h n ++ shut_in n e.event
shut_more [] e n = append-nil (shut_in n e.event)
shut_more (x ∷ h) e n = ap (λ l. shut_in n x.event ++ l) (shut_more h e n) ∙ sym (append_assoc (shut_in n x.event) (shut_by h n) (shut_in n e.event))

-- what an event is to a session, if it closes it, and if it closes another one
shut_of : (n : ℕ) (event : machine.Event) (cause : machine.Cause) → event ≡ Close n cause → shut_in n event ≡ cause ∷ []
shut_of n event cause is = ap (shut_in n) is ∙ ap (λ (k : Bool). cond k (cause ∷ []) []) (eq-eqb n n refl)

shut_other : (n m : ℕ) (event : machine.Event) (cause : machine.Cause) → event ≡ Close m cause → n ≢ m → shut_in n event ≡ []
shut_other n m event cause is ne = ap (shut_in n) is ∙ ap (λ (k : Bool). cond k (cause ∷ []) []) (ne_eqb m n (λ same. ne (sym same)))

-- an entry was entered, since a core was the first
pub record EnteredTo {K D : Type 0} {first a : CoreState K D} (p : Since first a) (e : Entry) (b : CoreState K D) : Type 0 where
  pub after : Since first b
  pub adds : after.entries ≡ p.entries ++ e ∷ []
  pub sent : List Sent
  pub stepped : step a.state e ≡ Some (record { state = b.state; sent = sent })
  pub counts : CountsWork a (e ∷ []) b
  pub handed : (n : ℕ) → after.handed n ≡ p.handed n
  pub asks : (n : ℕ) → requests after.entries n ≡ requests p.entries n ++ taken_by n e.event
  pub shut : (n : ℕ) → shut_by after.entries n ≡ shut_by p.entries n ++ shut_in n e.event
  pub closed : (n : ℕ) → closed_by first.state after.entries n ≡ option_or (closed_by first.state p.entries n) (closing_cause n a.state e.event b.state)
  pub waiting : (n : ℕ) → waiting_for n b.outbox ≡ waiting_for n a.outbox ++ frames_to n sent
  pub silent : (n : ℕ) → is_open a.state n ≡ false → frames_to n sent ≡ []

module _ {K D : Type 0} {first a b : CoreState K D} (p : Since first a) where
  pub since_enters : (e : Entry) → EntersEntry a e b → EnteredTo p e b
  since_enters e m =
      let here : Stepped = record { state = a.state; sent = p.sent } in
      let there : Stepped = record { state = b.state; sent = m.sent } in
      let order : InOrder a.state = run_in_order first.state p.entries here p.legal (known_in_order first.state first.kept p.known) in
      record {
        after = record {
          entries = p.entries ++ e ∷ [];
          sent = p.sent ++ m.sent;
          handed = p.handed;
          known = p.known;
          follows = λ before history given f.
              subst (λ (h : List Entry). Follows before h (and_then_handed given p.handed) b) (append_assoc history p.entries (e ∷ []))
              (m.follows.follows before (history ++ p.entries) (and_then_handed given p.handed) (p.follows before history given f));
          keeps = keeps_on first.kept a.kept b.kept p.entries (e ∷ []) p.keeps m.follows.keeps;
          counts = counts_on first a b p.entries (e ∷ []) p.counts m.follows.counts;
          legal = run_more first.state p.entries e here there p.legal m.stepped;
          frames = λ s.
              ap (λ (l : List (List ℕ)). waiting_for s first.outbox ++ l) (frames_to-append s p.sent m.sent)
              ∙ (sym (append_assoc (waiting_for s first.outbox) (frames_to s p.sent) (frames_to s m.sent))
              ∙ (ap (λ (l : List (List ℕ)). l ++ frames_to s m.sent) (p.frames s)
              ∙ (append_assoc (p.handed s) (waiting_for s a.outbox) (frames_to s m.sent)
              ∙ ap (λ (l : List (List ℕ)). p.handed s ++ l) (sym (m.waits s)))));
        };
        adds = refl;
        sent = m.sent;
        stepped = m.stepped;
        counts = m.follows.counts;
        handed = λ n. refl;
        asks = λ n. requests_more p.entries e n;
        shut = λ n. shut_more p.entries e n;
        closed = λ n. closed_by_more first.state p.entries a.state e there n (p.sent, p.legal) m.stepped;
        waiting = m.waits;
        silent = λ n away. away_silent n a.state e there m.stepped order away;
      }

  -- it does not close the session
  pub unshut : (e : Entry) (x : EnteredTo p e b) (n : ℕ) → shut_in n e.event ≡ [] → shut_by x.after.entries n ≡ shut_by p.entries n
  unshut e x n quiet = x.shut n ∙ (ap (λ (l : List machine.Cause). shut_by p.entries n ++ l) quiet ∙ append-nil (shut_by p.entries n))

  -- a session that was not meant by it
  spared : (e : Entry) (x : EnteredTo p e b) (n : ℕ) → shut_in n e.event ≡ [] → MayClose n a.state e (record { state = b.state; sent = x.sent }) [] → Spares (course_of p n) (course_of x.after n)
  spared e x n quiet (inl turn) = record {
    more = frames_to n x.sent;
    waiting = x.waiting n;
    silent = x.silent n;
    handed = x.handed n;
    asks = x.asks n ∙ (ap (λ (l : List Message). requests p.entries n ++ l) turn.taken_is ∙ append-nil (requests p.entries n));
    shut = unshut e x n quiet;
    closes = inl (turn.open_is, x.closed n ∙ (ap (option_or (closed_by first.state p.entries n)) turn.cause_is ∙ option_or_none (closed_by first.state p.entries n)));
  }
  spared e x n quiet (inr (was, turn)) = record {
    more = frames_to n x.sent;
    waiting = x.waiting n;
    silent = x.silent n;
    handed = x.handed n;
    asks = x.asks n ∙ (ap (λ (l : List Message). requests p.entries n ++ l) turn.taken_is ∙ append-nil (requests p.entries n));
    shut = unshut e x n quiet;
    closes = inr (was, turn.open_is, x.closed n ∙ ap (option_or (closed_by first.state p.entries n)) turn.cause_is);
  }

  -- it is at its moment
  pub entered_timed : (at : ℕ) (e : Entry) (x : EnteredTo p e b) → IsAtMoment at a.state e.choice.moment e.event → AreTimed at a.state (e ∷ []) b.state
  entered_timed at e x is = timed_one at a.state e (record { state = b.state; sent = x.sent }) x.stepped is

  abbrev goes_entered : (at n : ℕ) (e : Entry) (x : EnteredTo p e b) → IsAtMoment at a.state e.choice.moment e.event → ((t : ℕ) → t ≢ n → shut_in t e.event ≡ []) → ((t : ℕ) → t ≢ n → MayClose t a.state e (record { state = b.state; sent = x.sent }) []) → Goes at n p b
  goes_entered at n e x is quiet may = record { after = x.after; more = e ∷ []; adds = x.adds; timed = entered_timed at e x is; counts = x.counts; beside = λ t ne. spared e x t (quiet t ne) (may t ne) }

-- ---- parts of what is done

module _ {K D : Type 0} {first a : CoreState K D} (at n : ℕ) (p : Since first a) where
  -- nothing was done
  abbrev pub goes_same : Goes at n p a
  goes_same = record { after = p; more = []; adds = sym (append-nil p.entries); timed = refl; counts = counts_none a; beside = λ t ne. spares_same (course_of p t) }

  -- one part after another
  abbrev pub goes_along : {b c : CoreState K D} (x : Goes at n p b) → Goes at n x.after c → Goes at n p c
  goes_along {b} {c} x y = record {
    after = y.after;
    more = x.more ++ y.more;
    adds = y.adds ∙ (ap (λ (l : List Entry). l ++ y.more) x.adds ∙ append_assoc p.entries x.more y.more);
    timed = timed_append at a.state x.more y.more b.state c.state x.timed y.timed;
    counts = counts_on a b c x.more y.more x.counts y.counts;
    beside = λ t ne. spares_along (course_of p t) (course_of x.after t) (course_of y.after t) (x.beside t ne) (y.beside t ne);
  }

-- what was done to a session itself, as this relation says, and beside it
pub record Does {K D : Type 0} {first a : CoreState K D} (at n : ℕ) (p : Since first a) (b : CoreState K D) (relates : Course → Course → Type 0) : Type 0 where
  pub goes : Goes at n p b
  pub own : relates (course_of p n) (course_of goes.after n)

-- ---- frames that are handed out

pub hands_none : {K D : Type 0} (n : ℕ) (a : CoreState K D) → HandsOut n [] a a
hands_none n a = record {
  follows = λ before history given f. given_same before history given (and_all_handed given n []) a (λ s. none_more (eqb s n) (given s)) f;
  waiting = refl;
  others = λ t ne. refl;
  same = refl;
}
  where
    none_more : (b : Bool) (xs : List (List ℕ)) → xs ≡ xs ++ cond b [] []
    none_more true xs = sym (append-nil xs)
    none_more false xs = sym (append-nil xs)

some_more : (b : Bool) (xs fs gs : List (List ℕ)) → (xs ++ cond b fs []) ++ cond b gs [] ≡ xs ++ cond b (fs ++ gs) []
some_more true xs fs gs = append_assoc xs fs gs
some_more false xs fs gs = append-nil (xs ++ [])

pub hands_along : {K D : Type 0} (n : ℕ) (xs ys : List (List ℕ)) (a b c : CoreState K D) → HandsOut n xs a b → HandsOut n ys b c → HandsOut n (xs ++ ys) a c
hands_along n xs ys a b c x y = record {
  follows = λ before history given f.
      given_same before history (and_all_handed (and_all_handed given n xs) n ys) (and_all_handed given n (xs ++ ys)) c (λ s. some_more (eqb s n) (given s) xs ys)
      (y.follows before history (and_all_handed given n xs) (x.follows before history given f));
  waiting = x.waiting ∙ (ap (λ (l : List (List ℕ)). xs ++ l) y.waiting ∙ sym (append_assoc xs ys (waiting_for n c.outbox)));
  others = λ t ne. y.others t ne ∙ x.others t ne;
  same = y.same ∙ ap (λ (r : CoreState _ _). record r { outbox = c.outbox }) x.same;
}

module _ {K D : Type 0} {first a b : CoreState K D} (n : ℕ) (p : Since first a) (frames : List (List ℕ)) (h : HandsOut n frames a b) where
  handed_own : and_all_handed p.handed n frames n ≡ p.handed n ++ frames
  handed_own = ap (λ (k : Bool). p.handed n ++ cond k frames []) (eq-eqb n n refl)

  handed_other : (t : ℕ) → t ≢ n → and_all_handed p.handed n frames t ≡ p.handed t
  handed_other t ne = ap (λ (k : Bool). p.handed t ++ cond k frames []) (ne_eqb t n ne) ∙ append-nil (p.handed t)

  waits_own : p.handed n ++ waiting_for n a.outbox ≡ and_all_handed p.handed n frames n ++ waiting_for n b.outbox
  waits_own =
      ap (λ (l : List (List ℕ)). p.handed n ++ l) h.waiting
      ∙ (sym (append_assoc (p.handed n) frames (waiting_for n b.outbox)) ∙ ap (λ (l : List (List ℕ)). l ++ waiting_for n b.outbox) (sym handed_own))

  waits : (t : ℕ) → p.handed t ++ waiting_for t a.outbox ≡ and_all_handed p.handed n frames t ++ waiting_for t b.outbox
  waits t = elim (cases_eq t n) [
    | inl same ↦ subst (λ (k : ℕ). p.handed k ++ waiting_for k a.outbox ≡ and_all_handed p.handed n frames k ++ waiting_for k b.outbox) (sym same) waits_own
    | inr ne ↦
        ap (λ (l : List (List ℕ)). p.handed t ++ l) (sym (h.others t ne)) ∙ ap (λ (l : List (List ℕ)). l ++ waiting_for t b.outbox) (sym (handed_other t ne))
  ]

  same_state : b.state ≡ a.state
  same_state = ap (λ (r : CoreState K D). r.state) h.same

  abbrev handed_since : Since first b
  handed_since = record {
    entries = p.entries;
    sent = p.sent;
    handed = and_all_handed p.handed n frames;
    known = p.known;
    follows = λ before history given f.
        given_same before (history ++ p.entries) (and_all_handed (and_then_handed given p.handed) n frames) (and_then_handed given (and_all_handed p.handed n frames)) b
        (λ s. append_assoc (given s) (p.handed s) (cond (eqb s n) frames []))
        (h.follows before (history ++ p.entries) (and_then_handed given p.handed) (p.follows before history given f));
    keeps = ap (λ (r : CoreState K D). map entry_view r.kept) h.same ∙ p.keeps;
    counts = subst (λ (l : List Entry). CountsWork first l b) (append-nil p.entries) (counts_on first a b p.entries [] p.counts (counts_same a b h.same));
    legal = p.legal ∙ ap (λ (s : State). Some (record { state = s; sent = p.sent })) (sym same_state);
    frames = λ s. p.frames s ∙ waits s;
  }

  pub hands_on : (at : ℕ) → Does at n p b (λ c d. OwnHanded c d frames)
  hands_on at = record {
    goes = record {
      after = handed_since;
      more = [];
      adds = sym (append-nil p.entries);
      timed = same_state;
      counts = counts_same a b h.same;
      beside = λ t ne. record {
        more = [];
        waiting = h.others t ne ∙ sym (append-nil (waiting_for t a.outbox));
        silent = λ away. refl;
        handed = handed_other t ne;
        asks = refl;
        shut = refl;
        closes = inl (ap (λ (s : State). is_open s t) same_state, refl);
      };
    };
    own = record {
      is_open = ap (λ (s : State). is_open s n) same_state;
      closed = refl;
      asks = refl;
      shut = refl;
      handed = handed_own;
      waiting = h.waiting;
    };
  }

-- ---- a closing

module _ {K D : Type 0} {first a : CoreState K D} (at n : ℕ) (p : Since first a) (why : machine.Cause) (known known' : Option Cause) where
  shuts_open : (b : CoreState K D) → Closes a.state.moment n why a b → (cause : Cause) → known' ≡ Some cause → cause_view cause ≡ why → Does at n p b (λ c d. OwnClosed c d why known known')
  shuts_open b closes cause is view =
      let e : Entry = closing a.state.moment n why in
      let x = since_enters p e closes.moves in
      let t : Stepped = record { state = b.state; sent = x.sent } in
      let turn = turn_close n a.state e t x.stepped why refl in
      record {
        goes = goes_entered p at n e x (inl refl) (λ k ne. shut_other k n e.event why refl ne) (λ k ne. inl (turn_close_other k a.state e t x.stepped n why (λ same. ne (sym same)) refl));
        own = record {
          asks = x.asks n ∙ append-nil (requests p.entries n);
          handed = x.handed n;
          waiting = x.waiting n ∙ (ap (λ (l : List (List ℕ)). waiting_for n a.outbox ++ l) (close_spares a.state e t x.stepped n why refl) ∙ append-nil (waiting_for n a.outbox));
          away = turn.open_is;
          by = inl (
            close_of_open a.state e t x.stepped n why refl,
            x.closed n ∙ ap (option_or (closed_by first.state p.entries n)) turn.cause_is,
            x.shut n ∙ ap (λ (l : List machine.Cause). shut_by p.entries n ++ l) (shut_of n e.event why refl),
            (cause, is, view),
          );
        };
      }

  shuts_none : is_open a.state n ≡ false → known' ≡ known → Does at n p a (λ c d. OwnClosed c d why known known')
  shuts_none away same = record {
    goes = goes_same at n p;
    own = record { asks = refl; handed = refl; waiting = refl; away = away; by = inr (away, refl, refl, same) };
  }

  pub shuts : (b : CoreState K D) → ClosesOnce n why a b known known' → Does at n p b (λ c d. OwnClosed c d why known known')
  shuts b (inl (closes, (cause, is, view))) = shuts_open b closes cause is view
  shuts b (inr (same, away, known_same)) = subst (λ (k : CoreState K D). Does at n p k (λ c d. OwnClosed c d why known known')) (sym same) (shuts_none away known_same)

-- ---- a message

module _ {K D : Type 0} {first a : CoreState K D} (at n : ℕ) (p : Since first a) (message : Message) where
  takes_by_message : (b : CoreState K D) (e : Entry) (m : EntersEntry a e b) → e.choice.moment ≡ max at a.state.moment → e.event ≡ Take n message → Does at n p b (λ c d. OwnTook c d message)
  takes_by_message b e m when is =
      let x = since_enters p e m in
      let t : Stepped = record { state = b.state; sent = x.sent } in
      let was : is_open a.state n ≡ true = open_to_take a.state e t x.stepped n message is in
      let none : Option machine.Cause = closed_by first.state p.entries n in
      let asks : requests x.after.entries n ≡ requests p.entries n ++ message ∷ [] =
      x.asks n ∙ ap (λ (l : List Message). requests p.entries n ++ l) (ap (taken_by n) is ∙ ap (λ (k : Bool). cond k (message ∷ []) []) (eq-eqb n n refl)) in
      record {
        goes = goes_entered p at n e x (at_moment at a.state e.choice.moment e.event (Take n message) is when) (λ k ne. ap (shut_in k) is) (λ k ne. turn_take_other k a.state e t x.stepped n message (λ same. ne (sym same)) is);
        own = record {
          more = frames_to n x.sent;
          waiting = x.waiting n;
          silent = x.silent n;
          handed = x.handed n;
          by = elim (turn_take n a.state e t x.stepped message is) [
            | inl turn ↦ inr (inl (was, turn.open_is ∙ was, x.closed n ∙ (ap (option_or none) turn.cause_is ∙ option_or_none none), asks, unshut p e x n (ap (shut_in n) is)))
            | inr (was', turn) ↦ inr (inr (was, turn.open_is, x.closed n ∙ ap (option_or none) turn.cause_is, inl (asks, unshut p e x n (ap (shut_in n) is))))
          ];
        };
      }

  takes_by_closing : (b : CoreState K D) (e : Entry) (m : EntersEntry a e b) → e.choice.moment ≡ max at a.state.moment → e.event ≡ Close n machine.Memory → Does at n p b (λ c d. OwnTook c d message)
  takes_by_closing b e m when is =
      let x = since_enters p e m in
      let t : Stepped = record { state = b.state; sent = x.sent } in
      let turn = turn_close n a.state e t x.stepped machine.Memory is in
      record {
        goes = goes_entered p at n e x (at_moment at a.state e.choice.moment e.event (Close n machine.Memory) is (inr (refl, when))) (λ k ne. shut_other k n e.event machine.Memory is ne) (λ k ne. inl (turn_close_other k a.state e t x.stepped n machine.Memory (λ same. ne (sym same)) is));
        own = record {
          more = frames_to n x.sent;
          waiting = x.waiting n;
          silent = x.silent n;
          handed = x.handed n;
          by = inr (inr (
            close_of_open a.state e t x.stepped n machine.Memory is,
            turn.open_is,
            x.closed n ∙ ap (option_or (closed_by first.state p.entries n)) turn.cause_is,
            inr (
              x.asks n ∙ (ap (λ (l : List Message). requests p.entries n ++ l) turn.taken_is ∙ append-nil (requests p.entries n)),
              x.shut n ∙ ap (λ (l : List machine.Cause). shut_by p.entries n ++ l) (shut_of n e.event machine.Memory is),
            ),
          ));
        };
      }

  takes_none : is_open a.state n ≡ false → Does at n p a (λ c d. OwnTook c d message)
  takes_none away = record {
    goes = goes_same at n p;
    own = record { more = []; waiting = sym (append-nil (waiting_for n a.outbox)); silent = λ _. refl; handed = refl; by = inl (away, away, refl, refl, refl) };
  }

  pub takes : (draws : D → Uuid → D → Type 0) (b : CoreState K D) (r : Reply) → StepIs draws (max at a.state.moment) (Take n message) a r b → Does at n p b (λ c d. OwnTook c d message)
  takes draws b (answer.Opened session) e = absurd e.tells
  takes draws b answer.Done e = takes_by_message b e.entry e.moves e.moment e.tells.0
  takes draws b answer.Closed e = elim e.tells.0 [
    | inl is ↦ takes_by_message b e.entry e.moves e.moment is
    | inr is ↦ takes_by_closing b e.entry e.moves e.moment is
  ]
  takes draws b (answer.Refused fault.TooMany) (same, why) = absurd why
  takes draws b (answer.Refused fault.Memory) (same, why) = absurd why
  takes draws b (answer.Refused fault.NotOpen) (same, why) = subst (λ (k : CoreState K D). Does at n p k (λ c d. OwnTook c d message)) (sym same) (takes_none why)

-- ---- time

-- no session was meant
pub record Passes {K D : Type 0} {first a : CoreState K D} (at : ℕ) (p : Since first a) (b : CoreState K D) : Type 0 where
  pub after : Since first b
  pub more : List Entry
  pub adds : after.entries ≡ p.entries ++ more
  pub timed : AreTimed at a.state more b.state
  pub counts : CountsWork a more b
  pub all : (n : ℕ) → Spares (course_of p n) (course_of after n)

module _ {K D : Type 0} {first a : CoreState K D} (at : ℕ) (p : Since first a) where
  passes_by_entry : (b : CoreState K D) (e : Entry) → EntersEntry a e b → e.choice.moment ≡ max at a.state.moment → e.event ≡ Tick → is_due at a.state ≡ true → Passes at p b
  passes_by_entry b e m when is due =
      let x = since_enters p e m in
      let t : Stepped = record { state = b.state; sent = x.sent } in
      record {
        after = x.after;
        more = e ∷ [];
        adds = x.adds;
        timed = entered_timed p at e x (at_moment at a.state e.choice.moment e.event Tick is (when, due));
        counts = x.counts;
        all = λ n. spared p e x n (ap (shut_in n) is) (turn_tick n a.state e t x.stepped is);
      }

  passes_none : Passes at p a
  passes_none = record { after = p; more = []; adds = sym (append-nil p.entries); timed = refl; counts = counts_none a; all = λ n. spares_same (course_of p n) }

  pub passes : (draws : D → Uuid → D → Type 0) (b : CoreState K D) (r : Result Bool StepFault) → IfOk r (λ ticks. TicksIf draws ticks at a b) → IfOk r (λ ticks. ticks ≡ is_due at a.state)
      → IfErr r (λ fault. (b ≡ a) × (is_due at a.state ≡ true) × RefusesStep Tick a.state fault) → Passes at p b
  passes draws b (Ok true) ticks due refused = passes_by_entry b ticks.entry ticks.moves ticks.moment ticks.tells (sym due)
  passes draws b (Ok false) ticks due refused = subst (λ (k : CoreState K D). Passes at p k) (sym ticks) passes_none
  passes draws b (Err fault) ticks due refused = subst (λ (k : CoreState K D). Passes at p k) (sym refused.0) passes_none

-- ---- what calls of the core say

-- a frame, if there was one
pub hands_frame : {K D : Type 0} (n : ℕ) (a b : CoreState K D) (frame : Option (List ℕ)) → ((before : State) (history : List Entry) (given : ℕ → List (List ℕ)) → Follows before history given a → Follows before history (and_handed given n frame) b)
    → waiting_for n a.outbox ≡ option_to_list frame ++ waiting_for n b.outbox → ((other : ℕ) → other ≢ n → waiting_for other b.outbox ≡ waiting_for other a.outbox) → b ≡ record a { outbox = b.outbox } → HandsOut n (option_to_list frame) a b
hands_frame n a b frame handed oldest others same = record { follows = handed; waiting = oldest; others = others; same = same }

-- all frames of a closed session were dropped
pub hands_dropped : {K D : Type 0} (n : ℕ) (a b : CoreState K D) → ((before : State) (history : List Entry) (given : ℕ → List (List ℕ)) → Follows before history given a → Follows before history (and_all_handed given n (waiting_for n a.outbox)) b)
    → waiting_for n b.outbox ≡ [] → ((other : ℕ) → other ≢ n → waiting_for other b.outbox ≡ waiting_for other a.outbox) → b ≡ record a { outbox = b.outbox } → HandsOut n (waiting_for n a.outbox) a b
hands_dropped n a b handed none others same = record {
  follows = handed;
  waiting = sym (append-nil (waiting_for n a.outbox)) ∙ ap (λ (l : List (List ℕ)). waiting_for n a.outbox ++ l) (sym none);
  others = others;
  same = same;
}

-- it is closed once it was to be closed
pub closed_once_away : {K D : Type 0} (n : ℕ) (why : machine.Cause) (a b : CoreState K D) (known known' : Option Cause) → ClosesOnce n why a b known known' → is_open b.state n ≡ false
closed_once_away n why a b known known' (inl (closes, k)) = closes.shut
closed_once_away n why a b known known' (inr (same, away, k)) = ap (λ (r : CoreState _ _). is_open r.state n) same ∙ away

-- one frame more
pub hands_more : {K D : Type 0} (n m : ℕ) → m ≡ n → (moved : List (List ℕ)) (frame : List ℕ) (a b c : CoreState K D) → HandsOut n moved a b
    → ((before : State) (history : List Entry) (given : ℕ → List (List ℕ)) → Follows before history given b → Follows before history (and_handed given m (Some frame)) c)
    → waiting_for m b.outbox ≡ frame ∷ waiting_for m c.outbox → ((other : ℕ) → other ≢ m → waiting_for other c.outbox ≡ waiting_for other b.outbox) → c ≡ record b { outbox = c.outbox } → HandsOut n (moved ++ frame ∷ []) a c
hands_more n m is moved frame a b c x handed oldest others same =
    hands_along n moved (frame ∷ []) a b c x (subst (λ (k : ℕ). HandsOut k (frame ∷ []) b c) is (hands_frame m b c (Some frame) handed oldest others same))
