-- Which lists of stream events suit after one event more.
use Rattle.std.proofs.Common.{◌≡◌, ◌≢◌, ℕ, ◌+◌, ◌<◌, List, [], ◌∷◌, ◌++◌, refl, sym, ap, subst, ◌∙◌, cond, eqb, leb, max, Bool, true, false, Option, Some, None, zero, suc, inl, inr, length, arith, ◌-◌, append_assoc, take, get_or}
use Rattle.std.specs.Prelude.{◌||◌, MatchBool, IsSomeAnd, filter, slice_get}
use Rattle.std.proofs.Math.Nat.{zero-max}
use Rattle.std.proofs.lemmas.List.{append-nil, take_more, map-append, get_or_default}
use Rattle.std.proofs.lemmas.Option.{slice_get_cases}
use Rattle.std.proofs.lemmas.Bool.{false≢true, cases_Bool, cases_eq, le-leb, lt-leb, eq-eqb, eqb-true, ne_eqb, MatchBool-at_true, MatchBool-at_false}
use Rattle.std.proofs.lemmas.Map.Entries.{lookup-filter-keys}
use Rattle.std.specs.BTreeMap.{is_at}
use Rattle.std.specs.Ordering.{nat_cmp}
use Rattle.ov_specs.specs.wire.Message.{Message, asked}
use Rattle.ov_specs.specs.machine.Machine as machine
use Rattle.ov_specs.specs.machine.Machine.{State, Entry, Stepped, is_open, opening}
use Rattle.ov_specs.specs.values.Uuid.{Uuid}
use Rattle.ov_specs.specs.schema.SchemaTypes.{Schema}
use Rattle.ov_specs.specs.rows.Database.{Database}
use Rattle.ov_specs.specs.machine.Streams as streams
use Rattle.ov_specs.specs.machine.Streams.{Streams, no_streams, with_fed, Feeds, Expands, delivered, fed_state}
use Rattle.ov_specs.proofs.laws.Expanding.{one_more}
use Rattle.ov_specs.proofs.laws.Turns.{MayClose, turn_open, turn_tick, turn_close_other, turn_take_other}
use Rattle.ov_laws.proofs.Requests.{not_fed_yet}
use Rattle.ov_cut.specs.CutterState.{CutterState, HasCut}
use Rattle.ov_cut.specs.Reading.{IsFed}
use Rattle.ov_cut.proofs.Pieces.{fed_none}
use Rattle.ov_sessions.specs.declared.session.Session.{Session}
use Rattle.ov_history.specs.declared.event.Stepped.TheVariants as answer
use Rattle.ov_streams.specs.declared.event.StreamEvent.{StreamEvent}
use Rattle.ov_core.specs.Following.{CoreState, CountsWork, Extends}
use Rattle.ov_sessions.specs.Sessions.{most_sessions, beyond_serials, serial_left}
use Rattle.ov_core.specs.Stepping.{IsEntered, Closes, is_full, closing}
use Rattle.ov_core.proofs.Counted.{counts_none, counts_on}
use Rattle.ov_sessions.proofs.Keying.{same_serial}
use Rattle.ov_streams.specs.Feeding.{EntersPiece, fed_piece}
use Rattle.ov_streams.specs.Running.{StreamsState, FollowsEvents, RunsEvents, HasCutter, cutter_of, stream_event_view, stream_events_view}
use Rattle.ov_streams.proofs.Entering.{enters_none}

max_zero : (m : ℕ) → max 0 m ≡ m
max_zero m = omega arith

-- one event more, by its entries
suits_more : {K D : Type 0} (schema : Schema) (database : Database) (list : List streams.StreamEvent) (h : List Entry) (given : ℕ → List (List ℕ)) (old new : StreamsState K D) (s : FollowsEvents schema database list h given old) (e : streams.StreamEvent) (k : List Entry) (after : Streams)
    → Extends old.core k new.core → Expands 0 (fed_state old.core.state s.fed) e k (fed_state new.core.state after) → ((n : ℕ) → is_open new.core.state n ≡ true → HasCutter n (after n) new.cutters) → FollowsEvents schema database (list ++ e ∷ []) (h ++ k) given new
suits_more schema database list h given old new s e k after enters x cutters = record {
  fed = after;
  follows = enters.follows (opening schema database) h given s.follows;
  expands = one_more (fed_state (opening schema database) no_streams) list h (fed_state old.core.state s.fed) e k (fed_state new.core.state after) s.expands x;
  cutters = cutters;
}

at_true : (b : Bool) (P Q : Type 0) → b ≡ true → P → MatchBool b P Q
at_true true P Q h p = p
at_true false P Q h p = cc

at_false : (b : Bool) (P Q : Type 0) → b ≡ false → Q → MatchBool b P Q
at_false true P Q h q = cc
at_false false P Q h q = q

-- a session that may have been closed, and is open, was open before
open_before : (n : ℕ) (s : State) (e : Entry) (t : Stepped) (taken : List Message) → MayClose n s e t taken → is_open t.state n ≡ true → is_open s n ≡ true
open_before n s e t taken (inl turn) there = sym turn.open_is ∙ there
open_before n s e t taken (inr (was, turn)) there = was

-- ---- time passes, a session ends

pub passed : {K D : Type 0} (draws : D → Uuid → D → Type 0) (ms : ℕ) (old new : StreamsState K D) → new.cutters ≡ old.cutters → IsEntered draws (max ms old.core.state.moment) machine.Tick old.core answer.Done new.core → RunsEvents (streams.Passes ms ∷ []) old new
passed draws ms old new same e schema database list h given s =
    let t : Stepped = record { state = new.core.state; sent = e.moves.sent } in (
      e.entry ∷ [],
      suits_more schema database list h given old new s (streams.Passes ms) (e.entry ∷ []) s.fed e.moves.follows
          (e.entry, t, refl, record { event = e.tells; moment = e.moment; step = e.moves.stepped }, refl, refl)
          (λ n there. subst (HasCutter n (s.fed n)) (sym same) (s.cutters n (open_before n old.core.state e.entry t [] (turn_tick n old.core.state e.entry t e.moves.stepped e.tells) there))),
      e.moves.follows.counts,
    )

-- nothing was entered
counts_as_before : {K D : Type 0} {old new : StreamsState K D} → new ≡ old → CountsWork old.core [] new.core
counts_as_before {K} {D} {old} same = subst (λ (x : StreamsState K D). CountsWork old.core [] x.core) (sym same) (counts_none old.core)

module _ {K D : Type 0} (n : ℕ) (old new : StreamsState K D) where
  pub finished : new.cutters ≡ old.cutters → is_open old.core.state n ≡ true → Closes old.core.state.moment n machine.InputEnded old.core new.core → RunsEvents (streams.Finish n ∷ []) old new
  finished same there c schema database list h given s =
      let e = closing old.core.state.moment n machine.InputEnded in
      let t : Stepped = record { state = new.core.state; sent = c.moves.sent } in (
        e ∷ [],
        suits_more schema database list h given old new s (streams.Finish n) (e ∷ []) s.fed c.moves.follows
            (at_true (is_open old.core.state n) _ _ there (e, t, refl, record { event = refl; moment = sym (max_zero old.core.state.moment); step = c.moves.stepped }, refl, refl))
            (λ m still. subst (HasCutter m (s.fed m)) (sym same) (s.cutters m (elim (cases_eq n m) [
              | inl is ↦ absurd (false≢true (sym c.shut ∙ (ap (is_open new.core.state) is ∙ still)))
              | inr ne ↦ sym (turn_close_other m old.core.state e t c.moves.stepped n machine.InputEnded ne refl).open_is ∙ still
            ]))),
        c.moves.follows.counts,
      )

  pub not_finished : new ≡ old → is_open old.core.state n ≡ false → RunsEvents (streams.Finish n ∷ []) old new
  not_finished same away schema database list h given s = (
    [],
    subst (λ (x : StreamsState K D). FollowsEvents schema database (list ++ streams.Finish n ∷ []) (h ++ []) given x) (sym same)
        (suits_more schema database list h given old old s (streams.Finish n) [] s.fed (enters_none old.core) (at_false (is_open old.core.state n) _ _ away (refl, refl, refl)) s.cutters),
    counts_as_before same,
  )

-- ---- cutters

abbrev Cutters : Type 0
Cutters = List (ℕ × CutterState)

-- the cutters were updated at one session
abbrev pub UpdatesCutter : ℕ → Option CutterState → Cutters → Cutters → Type 0
UpdatesCutter n cutter old new = (m : ℕ) → cutter_of m new ≡ cond (eqb m n) cutter (cutter_of m old)

-- so was the map
pub updates_cutter : (n : ℕ) (cutter : Option CutterState) (old new : Cutters) → ((m : ℕ) → cutter_of m new ≡ cond (is_at (nat_cmp n) m) cutter (cutter_of m old)) → UpdatesCutter n cutter old new
updates_cutter n cutter old new h m = h m ∙ ap (λ (b : Bool). cond b cutter (cutter_of m old)) (same_serial n m)

-- a session has a cutter after one was given
has_updated : (n m : ℕ) (stream : List ℕ) (cutter : CutterState) (old new : Cutters) → UpdatesCutter n (Some cutter) old new → (m ≡ n → IsFed stream cutter) → (m ≢ n → HasCutter m stream old) → HasCutter m stream new
has_updated n m stream cutter old new h own other = subst (λ (o : Option CutterState). IsSomeAnd o (IsFed stream)) (sym (h m)) (elim (cases_eq m n) [
  | inl is ↦ rw (eq-eqb m n is) (own is)
  | inr ne ↦ rw (ne_eqb m n ne) (other ne)
])

-- and after another's was given up
has_kept : (n m : ℕ) (stream : List ℕ) (old new : Cutters) → UpdatesCutter n None old new → m ≢ n → HasCutter m stream old → HasCutter m stream new
has_kept n m stream old new h ne has = subst (λ (o : Option CutterState). IsSomeAnd o (IsFed stream)) (sym (h m)) (rw (ne_eqb m n ne) has)

-- the core with other cutters
abbrev pub over : {K D : Type 0} → CoreState K D → Cutters → StreamsState K D
over core cutters = record { core = core; cutters = cutters }

-- whatever the streams suited before, they suit with other cutters, if each open session has its own
with_cutters : {K D : Type 0} (old : StreamsState K D) (cutters : Cutters) → ((schema : Schema) (database : Database) (list : List streams.StreamEvent) (h : List Entry) (given : ℕ → List (List ℕ)) (s : FollowsEvents schema database list h given old)
    → (m : ℕ) → is_open old.core.state m ≡ true → HasCutter m (s.fed m) cutters) → RunsEvents [] old (over old.core cutters)
with_cutters old cutters has schema database list h given s = (
  [],
  subst (λ (l : List streams.StreamEvent). FollowsEvents schema database l (h ++ []) given (over old.core cutters)) (sym (append-nil list))
      (subst (λ (k : List Entry). FollowsEvents schema database list k given (over old.core cutters)) (sym (append-nil h)) (record {
        fed = s.fed;
        follows = s.follows;
        expands = s.expands;
        cutters = has schema database list h given s;
      })),
  counts_none old.core,
)

-- the cutter of a closed session was given up
pub forgotten : {K D : Type 0} (n : ℕ) (old : StreamsState K D) (cutters : Cutters) → UpdatesCutter n None old.cutters cutters → is_open old.core.state n ≡ false → RunsEvents [] old (over old.core cutters)
forgotten n old cutters updates away =
    with_cutters old cutters (λ schema database list h given s m there.
    has_kept n m (s.fed m) old.cutters cutters updates (λ is. false≢true (sym away ∙ (ap (is_open old.core.state) (sym is) ∙ there))) (s.cutters m there))

-- those of closed sessions are not among these
abbrev of_open : State → Cutters → Cutters
of_open s cutters = filter (λ e. is_open s e.0) cutters

-- an open session still has its own
kept_open : (s : State) (n : ℕ) (cutters : Cutters) → is_open s n ≡ true → cutter_of n (of_open s cutters) ≡ cutter_of n cutters
kept_open s n cutters there = lookup-filter-keys (is_at (nat_cmp n)) (is_open s) true (λ k at. ap (is_open s) (eqb-true k n (sym (same_serial n k) ∙ at)) ∙ there) cutters

-- the cutters of all closed sessions were given up
pub forgotten_closed : {K D : Type 0} (old : StreamsState K D) (cutters : Cutters) → cutters ≡ of_open old.core.state old.cutters → RunsEvents [] old (over old.core cutters)
forgotten_closed old cutters is =
    with_cutters old cutters (λ schema database list h given s m there.
    subst (λ (o : Option CutterState). IsSomeAnd o (IsFed (s.fed m))) (sym (ap (cutter_of m) is ∙ kept_open old.core.state m old.cutters there)) (s.cutters m there))

-- ---- a session opens

pub first_fed : (stream : List ℕ) (cutter : CutterState) → stream ≡ [] → HasCut [] [] cutter → IsFed stream cutter
first_fed stream cutter none cuts = subst (λ (l : List ℕ). IsFed l cutter) (sym none) (fed_none cutter cuts)

module _ {K D : Type 0} (cutter : CutterState) (old : StreamsState K D) (cutters : Cutters) (updates : UpdatesCutter old.core.state.next (Some cutter) old.cutters cutters) (cuts : HasCut [] [] cutter) where
  -- the next session has a cutter, which was given nothing
  next_has : (schema : Schema) (database : Database) (list : List streams.StreamEvent) (h : List Entry) (given : ℕ → List (List ℕ)) (s : FollowsEvents schema database list h given old)
      → (m : ℕ) → (m ≢ old.core.state.next → is_open old.core.state m ≡ true) → HasCutter m (s.fed m) cutters
  next_has schema database list h given s m other = has_updated old.core.state.next m (s.fed m) cutter old.cutters cutters updates
      (λ is. first_fed (s.fed m) cutter (not_fed_yet schema database _ h old.core.state s.fed m s.expands (omega (arith, is))) cuts)
      (λ ne. s.cutters m (other ne))

  -- it is not opened
  pub not_opened : RunsEvents [] old (over old.core cutters)
  not_opened = with_cutters old cutters (λ schema database list h given s m there. next_has schema database list h given s m (λ _. there))

  pub opened : (draws : D → Uuid → D → Type 0) (session : Session) (core : CoreState K D) → IsEntered draws old.core.state.moment machine.Open old.core (answer.Opened session) core → RunsEvents (streams.Opens ∷ []) old (over core cutters)
  opened draws session core e schema database list h given s =
      let t : Stepped = record { state = core.state; sent = e.moves.sent } in (
        e.entry ∷ [],
        suits_more schema database list h given old (over core cutters) s streams.Opens (e.entry ∷ []) s.fed e.moves.follows
            (e.entry, t, refl, record { event = e.tells.0; moment = e.moment ∙ sym (zero-max old.core.state.moment); step = e.moves.stepped }, refl, refl)
            (λ n there.
            let turned : (is_open old.core.state n || eqb old.core.state.next n) ≡ true = sym (turn_open n old.core.state e.entry t e.moves.stepped e.tells.0).open_is ∙ there in
            next_has schema database list h given s n (λ ne. only (is_open old.core.state n) (eqb old.core.state.next n) (ne_eqb old.core.state.next n (λ is. ne (sym is))) turned)),
        e.moves.follows.counts,
      )
    where
      only : (a b : Bool) → b ≡ false → (a || b) ≡ true → a ≡ true
      only true b h k = refl
      only false true h k = cc
      only false false h k = k

-- no serial is left
pub full_by_serial : (s : State) → serial_left s.next ≡ None → is_full s ≡ true
full_by_serial s none = by (leb most_sessions (length s.sessions)) (leb beyond_serials s.next) none
  where
    by : (a b : Bool) → cond b None (Some s.next) ≡ None → (a || b) ≡ true
    by true b h = refl
    by false true h = refl
    by false false h = cc

-- no place is left
pub full_by_places : (s : State) → most_sessions - length s.sessions ≡ 0 → is_full s ≡ true
full_by_places s none = rw (le-leb most_sessions (length s.sessions) (omega arith)) refl

-- a place and a serial are left
pub not_full : (s : State) (serial : ℕ) → serial_left s.next ≡ Some serial → most_sessions - length s.sessions ≢ 0 → is_full s ≡ false
not_full s serial left place = rw (lt-leb most_sessions (length s.sessions) (below (most_sessions - length s.sessions) refl place)) (by (leb beyond_serials s.next) left)
  where
    below : (k : ℕ) → most_sessions - length s.sessions ≡ k → k ≢ 0 → length s.sessions < most_sessions
    below zero is ne = absurd (ne refl)
    below (suc k) is ne = omega arith

    by : (b : Bool) → cond b None (Some s.next) ≡ Some serial → b ≡ false
    by true h = cc
    by false h = refl

-- the serial that is left is the next
pub left_is : (next serial : ℕ) → serial_left next ≡ Some serial → serial ≡ next
left_is next serial h = by (leb beyond_serials next) h
  where
    by : (b : Bool) → cond b None (Some next) ≡ Some serial → serial ≡ next
    by true k = cc
    by false k = cc

-- ---- bytes of a session come

-- a closing of another session
shut_aside : (at n m : ℕ) → m ≢ n → (s : State) (cause : machine.Cause) (e : Entry) (t : Stepped) (new : State) → streams.IsEntryAt at s (machine.Close m cause) e t → new ≡ t.state → is_open new n ≡ true → is_open s n ≡ true
shut_aside at n m ne s cause e t new enters same there = sym (turn_close_other n s e t enters.step m cause ne enters.event).open_is ∙ (ap (λ v. is_open v n) (sym same) ∙ there)

-- another session is open after the entries of a piece only where it was before
others_open : (at n m : ℕ) → m ≢ n → (s : State) (ms : List Message) (d : Bool) (entries : List Entry) (new : State) → Feeds (delivered at m) s ms d entries new → is_open new n ≡ true → is_open s n ≡ true
others_open at n m ne s [] false [] new f there = ap (λ v. is_open v n) (sym f) ∙ there
others_open at n m ne s [] true [] new f there = absurd f
others_open at n m ne s [] false (e ∷ []) new (t, inl enters, same) there = shut_aside at n m ne s machine.Memory e t new enters same there
others_open at n m ne s [] false (e ∷ []) new (t, inr (bad, enters), same) there = absurd (false≢true bad)
others_open at n m ne s [] true (e ∷ []) new (t, inl enters, same) there = shut_aside at n m ne s machine.Memory e t new enters same there
others_open at n m ne s [] true (e ∷ []) new (t, inr (bad, enters), same) there = shut_aside at n m ne s machine.Damaged e t new enters same there
others_open at n m ne s [] false (e ∷ f ∷ entries) new h there = absurd h
others_open at n m ne s [] true (e ∷ f ∷ entries) new h there = absurd h
others_open at n m ne s (message ∷ ms) d [] new h there = absurd h
others_open at n m ne s (message ∷ ms) d (e ∷ entries) new (t, inl (enters, none, same)) there = shut_aside at n m ne s machine.Memory e t new enters same there
others_open at n m ne s (message ∷ ms) d (e ∷ entries) new (t, inr (enters, on)) there =
    open_before n s e t [] (turn_take_other n s e t enters.step m message ne enters.event) (elim (cases_Bool (is_open t.state m)) [
      | inl still ↦ others_open at n m ne t.state ms d entries new (MatchBool-at_true (Feeds (delivered at m) t.state ms d entries new) ((entries ≡ []) × (new ≡ t.state)) still on) there
      | inr shut ↦ ap (λ v. is_open v n) (sym (MatchBool-at_false (Feeds (delivered at m) t.state ms d entries new) ((entries ≡ []) × (new ≡ t.state)) shut on).1) ∙ there
    ])

pub fed_own : (x : Streams) (n : ℕ) (bytes : List ℕ) → with_fed x n bytes n ≡ x n ++ bytes
fed_own x n bytes = ap (λ b. cond b (x n ++ bytes) (x n)) (eq-eqb n n refl)

fed_other : (x : Streams) (n m : ℕ) (bytes : List ℕ) → m ≢ n → with_fed x n bytes m ≡ x m
fed_other x n m bytes ne = ap (λ b. cond b (x m ++ bytes) (x m)) (ne_eqb m n ne)

-- the session's cutter was given its bytes
pub was_fed : {K D : Type 0} (n : ℕ) (bytes : List ℕ) (before after : CutterState) (old new : StreamsState K D) → cutter_of n old.cutters ≡ Some before → UpdatesCutter n (Some after) old.cutters new.cutters
    → is_open old.core.state n ≡ true → ((stream : List ℕ) → IsFed stream before → EntersPiece 0 (fed_piece n stream bytes) old.core new.core after) → RunsEvents (streams.Feed n bytes ∷ []) old new
was_fed n bytes before after old new was updates there brings schema database list h given s =
    let b = brings (s.fed n) (subst (λ (o : Option CutterState). IsSomeAnd o (IsFed (s.fed n))) was (s.cutters n there)) in (
      b.entries,
      suits_more schema database list h given old new s (streams.Feed n bytes) b.entries (with_fed s.fed n bytes) b.enters
          (at_true (is_open old.core.state n) _ _ there (b.messages, b.more, b.feeds, refl))
          (λ m still. has_updated n m (with_fed s.fed n bytes m) after old.cutters new.cutters updates
          (λ is. subst (λ (k : ℕ). IsFed (with_fed s.fed n bytes k) after) (sym is) (subst (λ (l : List ℕ). IsFed l after) (sym (fed_own s.fed n bytes)) (b.goes_on (ap (is_open new.core.state) (sym is) ∙ still))))
          (λ ne. subst (λ (l : List ℕ). HasCutter m l old.cutters) (sym (fed_other s.fed n m bytes ne))
          (s.cutters m (others_open 0 m n (λ e. ne (sym e)) old.core.state b.messages (asked (s.fed n ++ bytes)).damaged b.entries new.core.state b.feeds still)))),
      b.enters.counts,
    )

-- the session is not open
pub not_fed : {K D : Type 0} (n : ℕ) (bytes : List ℕ) (old new : StreamsState K D) → new ≡ old → is_open old.core.state n ≡ false → RunsEvents (streams.Feed n bytes ∷ []) old new
not_fed n bytes old new same shut schema database list h given s = (
  [],
  subst (λ (x : StreamsState _ _). FollowsEvents schema database (list ++ streams.Feed n bytes ∷ []) (h ++ []) given x) (sym same)
      (suits_more schema database list h given old old s (streams.Feed n bytes) [] s.fed (enters_none old.core) (at_false (is_open old.core.state n) _ _ shut (refl, refl, refl)) s.cutters),
  counts_as_before same,
)

-- an open session has a cutter, so what is without is nothing that the streams come to
pub no_cutter : {K D : Type 0} (n : ℕ) (bytes : List ℕ) (old new : StreamsState K D) → is_open old.core.state n ≡ true → cutter_of n old.cutters ≡ None → RunsEvents (streams.Feed n bytes ∷ []) old new
no_cutter n bytes old new there none schema database list h given s = absurd (subst (λ (o : Option CutterState). IsSomeAnd o (IsFed (s.fed n))) none (s.cutters n there))

-- ---- lists of events

pub serves_none : {K D : Type 0} (now : StreamsState K D) → RunsEvents [] now now
serves_none now schema database list h given s =
    ([], subst (λ (l : List streams.StreamEvent). FollowsEvents schema database l (h ++ []) given now) (sym (append-nil list)) (subst (λ (k : List Entry). FollowsEvents schema database list k given now) (sym (append-nil h)) s), counts_none now.core)

pub serves_more : {K D : Type 0} (xs ys : List streams.StreamEvent) (old mid new : StreamsState K D) → RunsEvents xs old mid → RunsEvents ys mid new → RunsEvents (xs ++ ys) old new
serves_more xs ys old mid new one two schema database list h given s =
    let a = one schema database list h given s in
    let b = two schema database (list ++ xs) (h ++ a.0) given a.1 in
    (a.0 ++ b.0, subst (λ (l : List streams.StreamEvent). FollowsEvents schema database l (h ++ (a.0 ++ b.0)) given new) (append_assoc list xs ys) (subst (λ (k : List Entry). FollowsEvents schema database ((list ++ xs) ++ ys) k given new) (append_assoc h a.0 b.0) b.1), counts_on old.core mid.core new.core a.0 b.0 a.2 b.2)

-- one event more
pub view_more : (events : List StreamEvent) (i : ℕ) (event : StreamEvent) → i < length events → event ≡ get_or events i event → stream_events_view (take (i + 1) events) ≡ stream_events_view (take i events) ++ stream_event_view event ∷ []
view_more events i event h e = ap stream_events_view (take_more events i event h) ∙ (map-append stream_event_view (take i events) (get_or events i event ∷ []) ∙ ap (λ (x : StreamEvent). stream_events_view (take i events) ++ stream_event_view x ∷ []) (sym e))

-- what holds of the event at a place
pub event_at : (P : StreamEvent → Type 0) (events : List StreamEvent) (i : ℕ) (event : StreamEvent) → i < length events → event ≡ get_or events i event → P event → IsSomeAnd (slice_get events i) P
event_at P events i event h e holds = elim (slice_get_cases events i).1 [
  | inl (x, within, is, at) ↦ rw is (subst P (e ∙ (get_or_default events i event x h ∙ at)) holds)
  | inr (over, none) ↦ absurd (omega arith)
]
