-- One step of the machine, and of the core.
use Rattle.std.proofs.Common.{◌≡◌, ℕ, ◌≤◌, List, [], ◌∷◌, ◌++◌, map, refl, sym, ap, ◌∙◌, cond, Bool, true, false, Option, Some, None, append_assoc, leb, inl, inr, arith}
use Rattle.std.specs.List.{list_all}
use Rattle.std.proofs.lemmas.List.{append-nil}
use Rattle.std.proofs.lemmas.Bool.{le-leb}
use Rattle.std.proofs.lemmas.Option.{same_Some}
use Rattle.ov_specs.specs.machine.Machine as machine
use Rattle.ov_specs.specs.machine.Machine.{State, Sent, Stepped, step}
use Rattle.ov_specs.specs.values.Uuid.{Uuid, is_uuid}
use Rattle.ov_specs.specs.machine.History.{frames_to}
use Rattle.ov_specs.proofs.laws.Histories.{run_more}
use Rattle.ov_specs.specs.wire.Message.{Message}
use Rattle.ov_specs.specs.schema.SchemaTypes.{Schema}
use Rattle.ov_specs.specs.rows.Database.{Database}
use Rattle.ov_specs.specs.rows.Suits.{Suits}
use Rattle.ov_db.specs.KeptDatabase.{KeptDatabase}
use Rattle.ov_outbox.specs.Frames.{WaitingFrames, waiting_for, PostsSent, HasSameFrames}
use Rattle.ov_sessions.specs.Sessions.{OpenSessions}
use Rattle.ov_sessions.specs.declared.session.Session.{Session}
use Rattle.ov_sessions.proofs.Keying.{shut_without, still_others}
use Rattle.ov_requests.specs.Drawing.{DrawsFrom}
use Rattle.ov_history.specs.declared.event.Attempt.{Attempt}
use Rattle.ov_history.specs.declared.event.Entry.{Entry}
use Rattle.ov_history.specs.declared.event.Stepped.TheVariants as answer
use Rattle.ov_live.specs.declared.live.Live.{Live}
use Rattle.ov_history.specs.Entries.{attempt_view, entry_view}
use Rattle.ov_live.specs.Sessions.{ClosesSession, OpensLive}
use Rattle.ov_live.specs.States.{machine_state}
use Rattle.ov_live.proofs.Trying.{counts_few}
use Rattle.ov_live.specs.Settling.{ComesTo, choice_of}
use Rattle.ov_live.specs.Asking.{AsksKeeper}
use Rattle.ov_core.specs.Following.{CoreState, CountsWork, EntersEntry, Follows, keeper_of, none_given}
use Rattle.ov_history.specs.History.{newest, HasHistory}
use Rattle.ov_core.specs.Stepping.{closing, Closes, IsEntered}
use Rattle.ov_outbox.proofs.Answered.{frames_to-append}
use Rattle.ov_history.proofs.Histories.{entered_after, keeps_more, has_more}
use Rattle.ov_live.proofs.Asking.{asks_nothing}
use Rattle.ov_core.proofs.Counted.{counts_one, counts_unasked}
use Rattle.ov_live.proofs.Settlings.{closed_state}
use Rattle.ov_live.proofs.Watching.{any-serial, left-open, sessions-opened}

-- ---- what a step of the code leaves

-- an entry that is a step of the machine and is kept, and whose frames wait
pub moves_with : {K D : Type 0} (old new : CoreState K D) (e : machine.Entry) (x : Entry) (sent : List Sent) → step old.state e ≡ Some (record { state = new.state; sent = sent }) → new.kept ≡ newest (old.kept ++ x ∷ []) → entry_view x ≡ e
    → PostsSent sent old.outbox new.outbox → CountsWork old (e ∷ []) new → EntersEntry old e new
moves_with old new e x sent stepped kept is waits counts = record {
  sent = sent;
  stepped = stepped;
  waits = waits;
  follows = record {
    follows = λ before history given f. record {
      sent = f.sent ++ sent;
      legal = run_more before history e (record { state = old.state; sent = f.sent }) (record { state = new.state; sent = sent }) f.legal stepped;
      kept = keeps_more old.kept new.kept history e f.kept (entered_after old.kept new.kept x e kept is);
      issued = λ s. frames_to-append s f.sent sent ∙ (ap (λ (fs : List (List ℕ)). fs ++ frames_to s sent) (f.issued s) ∙ (append_assoc (given s) (waiting_for s old.outbox) (frames_to s sent) ∙ ap (λ (fs : List (List ℕ)). given s ++ fs) (sym (waits s))));
    };
    keeps = entered_after old.kept new.kept x e kept is;
    counts = counts;
  };
}

-- a step that sends nothing
pub moves_silent : {K D : Type 0} (old new : CoreState K D) (e : machine.Entry) (x : Entry) → step old.state e ≡ Some (record { state = new.state; sent = [] }) → new.kept ≡ newest (old.kept ++ x ∷ []) → entry_view x ≡ e
    → HasSameFrames old.outbox new.outbox → CountsWork old (e ∷ []) new → EntersEntry old e new
moves_silent old new e x stepped kept is same counts = moves_with old new e x [] stepped kept is (λ s. same s ∙ sym (append-nil (waiting_for s old.outbox))) counts

-- at a moment that is not below the last one
step_at : (s : State) (event : machine.Event) (c : machine.Choice) → s.moment ≤ c.moment → step s (record { event = event; choice = c }) ≡ machine.happens (record s { moment = c.moment }) c event
step_at s event c h = rw (le-leb s.moment c.moment h) refl

-- nothing is chosen but the moment
abbrev pub nothing_chosen : ℕ → machine.Choice
nothing_chosen m = record { moment = m; draws = []; outcomes = [] }

-- an event with its choice
abbrev pub entry_of : machine.Event → machine.Choice → machine.Entry
entry_of event choice = record { event = event; choice = choice }

-- ---- a message that was taken, and a Tick

-- the entry of the code is the machine's
pub entered_as : (m n : ℕ) (message text : Message) (draws : List Uuid) (outcomes : List machine.Attempt) (x : Entry)
    → entry_view x ≡ entry_of (machine.Take n text) (record { moment = m; draws = draws; outcomes = outcomes }) → text ≡ message → entry_view x ≡ entry_of (machine.Take n message) (record { moment = m; draws = draws; outcomes = outcomes })
entered_as m n message text draws outcomes x is same =
    is ∙ ap (λ (v : Message). entry_of (machine.Take n v) (record { moment = m; draws = draws; outcomes = outcomes })) same

-- what a core was over the live state
abbrev pub core_of : {K D : Type 0} → (K → ℕ) → Live K → ℕ → List Entry → D → CoreState K D
core_of failed live m entries source = record {
  state = machine_state live m;
  open_sessions = live.sessions.open_sessions;
  kept = entries;
  outbox = live.outbox.frames;
  keeper = live.database.keeper;
  failures = failed live.database.keeper;
  source = source;
  tries = live.tries;
}

-- a session that was opened
module _ {K : Type 0} (failed : K → ℕ) (session : Session) (old new : Live K) (before m : ℕ) (opens : OpensLive old session new) where
  opened_state : (machine.with_next_session (machine_state old m)) ≡ machine_state new m
  opened_state = sym (rw (opens.same, opens.opens.sessions, sessions-opened session old.sessions.next old.watchers new.watchers opens.opens.serial opens.watching old.sessions.open_sessions opens.opens.fresh) refl)

  is_opening : before ≤ m → step (machine_state old before) (entry_of machine.Open (nothing_chosen m)) ≡ Some (record { state = machine_state new m; sent = [] })
  is_opening low = step_at (machine_state old before) machine.Open (nothing_chosen m) low ∙ ap (λ (s : State). Some (record { state = s; sent = [] })) opened_state

  pub opened : {D : Type 0} (was is : List Entry) (x : Entry) (source : D) → before ≤ m → is ≡ newest (was ++ x ∷ []) → entry_view x ≡ entry_of machine.Open (nothing_chosen m)
      → EntersEntry (core_of failed old before was source) (entry_of machine.Open (nothing_chosen m)) (core_of failed new m is source)
  opened was is x source low added same =
      moves_silent (core_of failed old before was source) (core_of failed new m is source) (entry_of machine.Open (nothing_chosen m)) x (is_opening low) added same (λ s. ap (λ (l : Live K). waiting_for s l.outbox.frames) opens.same)
      (counts_unasked (core_of failed old before was source) (core_of failed new m is source) (entry_of machine.Open (nothing_chosen m)) [] (is_opening low) (omega (arith, ap (λ (l : Live K). l.tries) opens.same))
      (ap (λ (l : Live K). failed l.database.keeper) opens.same) (ap (λ (l : Live K). l.database.sealed) opens.same))

  pub has_opened : (was is : List Entry) (x : Entry) → before ≤ m → is ≡ newest (was ++ x ∷ []) → entry_view x ≡ entry_of machine.Open (nothing_chosen m) → HasHistory (machine_state old before) was → HasHistory (machine_state new m) is
  has_opened was is x low added same has = has_more (machine_state old before) (machine_state new m) was is (entry_of machine.Open (nothing_chosen m)) [] (is_opening low) refl (entered_after was is x _ added same) has

-- a session that was closed
module _ {K : Type 0} (failed : K → ℕ) (n : ℕ) (cause : machine.Cause) (old new : Live K) (before m : ℕ) (closes : ClosesSession n old new) where
  abbrev sent : List Sent
  sent = (machine.closed (machine_state old m) n).sent

  is_closing_of : before ≤ m → machine.is_open (machine_state old before) n ≡ true → step (machine_state old before) (closing m n cause) ≡ Some (record { state = machine_state new m; sent = sent })
  is_closing_of low there =
      step_at (machine_state old before) (machine.Close n cause) (nothing_chosen m) low ∙ (rw there refl ∙ ap (λ (s : State). Some (record { state = s; sent = sent })) (sym (closed_state m n old new closes)))

  pub closed : {D : Type 0} (was is : List Entry) (x : Entry) (source : D) → before ≤ m → machine.is_open (machine_state old before) n ≡ true → is ≡ newest (was ++ x ∷ []) → entry_view x ≡ closing m n cause
      → Closes m n cause (core_of failed old before was source) (core_of failed new m is source)
  closed was is x source low there added same = record {
    moves = moves_with (core_of failed old before was source) (core_of failed new m is source) (closing m n cause) x sent (is_closing_of low there) added same closes.posts
        (counts_unasked (core_of failed old before was source) (core_of failed new m is source) (closing m n cause) sent (is_closing_of low there) (omega (arith, ap (λ (l : Live K). l.tries) closes.same))
        (ap (λ (l : Live K). failed l.database.keeper) closes.same) (ap (λ (l : Live K). l.database.sealed) closes.same));
    shut = any-serial new.watchers n new.sessions.open_sessions ∙ rw closes.same (shut_without n old.sessions.open_sessions);
    keys = left-open (machine_state new m) new.watchers old.sessions.open_sessions new.sessions.open_sessions refl (rw closes.same (still_others n old.sessions.open_sessions));
    drawn = refl;
    asks = (ap (λ (l : Live K). l.database.keeper) closes.same, ap (λ (l : Live K). failed l.database.keeper) closes.same);
    tries = ap (λ (l : Live K). l.tries) closes.same;
    forgotten = closes.forgotten;
  }

  pub has_closed : (was is : List Entry) (x : Entry) → before ≤ m → machine.is_open (machine_state old before) n ≡ true → is ≡ newest (was ++ x ∷ []) → entry_view x ≡ closing m n cause → HasHistory (machine_state old before) was → HasHistory (machine_state new m) is
  has_closed was is x low there added same has = has_more (machine_state old before) (machine_state new m) was is (closing m n cause) sent (is_closing_of low there) refl (entered_after was is x _ added same) has

-- what an event came to, as it was entered
module _ {K : Type 0} (failed : K → ℕ) (event : machine.Event) (old new : Live K) (before m : ℕ) (draws : List Uuid) (attempts : List Attempt) (comes : ComesTo failed (choice_of m draws attempts) event old new) where
  abbrev pub entered : machine.Entry
  entered = entry_of event (record { moment = m; draws = draws; outcomes = map attempt_view attempts })

  is_step : before ≤ m → step (machine_state old before) entered ≡ Some (record { state = machine_state new m; sent = comes.sent })
  is_step low = step_at (machine_state old before) event entered.choice low ∙ comes.happens

  pub enters : {D : Type 0} (was is : List Entry) (x : Entry) (source after : D) → before ≤ m → is ≡ newest (was ++ x ∷ []) → entry_view x ≡ entered → EntersEntry (core_of failed old before was source) entered (core_of failed new m is after)
  enters was is x source after low added same =
      moves_with (core_of failed old before was source) (core_of failed new m is after) entered x comes.sent (is_step low) added same comes.posts
      (counts_one (core_of failed old before was source) (core_of failed new m is after) entered comes.sent (is_step low) comes.tries comes.asks.counts comes.asks.seal)

  pub has_entered : (was is : List Entry) (x : Entry) → before ≤ m → is ≡ newest (was ++ x ∷ []) → entry_view x ≡ entered → list_all is_uuid draws ≡ true → HasHistory (machine_state old before) was → HasHistory (machine_state new m) is
  has_entered was is x low added same uuids has = has_more (machine_state old before) (machine_state new m) was is entered comes.sent (is_step low) uuids (entered_after was is x entered added same) has

-- a message that was taken: its session is open afterwards, or not
pub took : {K D : Type 0} (failed : K → ℕ) (draws : D → Uuid → D → Type 0) (n : ℕ) (message : Message) (old new : Live K) (before m : ℕ) (drawn : List Uuid) (attempts : List Attempt) (was is : List Entry) (x : Entry) (source after : D) (b : Bool)
    → ComesTo failed (choice_of m drawn attempts) (machine.Take n message) old new → before ≤ m → is ≡ newest (was ++ x ∷ []) → entry_view x ≡ entry_of (machine.Take n message) (record { moment = m; draws = drawn; outcomes = map attempt_view attempts })
    → DrawsFrom draws source drawn after → list_all is_uuid drawn ≡ true → machine.is_open (machine_state new m) n ≡ b
    → IsEntered draws m (machine.Take n message) (core_of failed old before was source) (cond b answer.Done answer.Closed) (core_of failed new m is after)
took failed draws n message old new before m drawn attempts was is x source after true comes low added same from uuids there = record {
  entry = entered failed (machine.Take n message) old new before m drawn attempts comes;
  tells = (refl, there);
  keys = left-open (machine_state new m) new.watchers old.sessions.open_sessions new.sessions.open_sessions refl comes.left;
  moment = refl;
  drawn = from;
  uuids = uuids;
  moves = enters failed (machine.Take n message) old new before m drawn attempts comes was is x source after low added same;
  asks = comes.asks;
  tries = comes.tries;
  few = counts_few (machine_state old m) (record { moment = m; draws = drawn; outcomes = map attempt_view attempts }) (machine.Take n message) old.tries new.tries comes.tries;
}
took failed draws n message old new before m drawn attempts was is x source after false comes low added same from uuids away = record {
  entry = entered failed (machine.Take n message) old new before m drawn attempts comes;
  tells = (inl refl, away);
  keys = left-open (machine_state new m) new.watchers old.sessions.open_sessions new.sessions.open_sessions refl comes.left;
  moment = refl;
  drawn = from;
  uuids = uuids;
  moves = enters failed (machine.Take n message) old new before m drawn attempts comes was is x source after low added same;
  asks = comes.asks;
  tries = comes.tries;
  few = counts_few (machine_state old m) (record { moment = m; draws = drawn; outcomes = map attempt_view attempts }) (machine.Take n message) old.tries new.tries comes.tries;
}

-- a Tick
pub ticked : {K D : Type 0} (failed : K → ℕ) (draws : D → Uuid → D → Type 0) (old new : Live K) (before m : ℕ) (attempts : List Attempt) (was is : List Entry) (x : Entry) (source : D)
    → ComesTo failed (choice_of m [] attempts) machine.Tick old new → before ≤ m → is ≡ newest (was ++ x ∷ []) → entry_view x ≡ entry_of machine.Tick (record { moment = m; draws = []; outcomes = map attempt_view attempts })
    → IsEntered draws m machine.Tick (core_of failed old before was source) answer.Done (core_of failed new m is source)
ticked failed draws old new before m attempts was is x source comes low added same = record {
  entry = entered failed machine.Tick old new before m [] attempts comes;
  tells = refl;
  keys = left-open (machine_state new m) new.watchers old.sessions.open_sessions new.sessions.open_sessions refl comes.left;
  moment = refl;
  drawn = refl;
  uuids = refl;
  moves = enters failed machine.Tick old new before m [] attempts comes was is x source source low added same;
  asks = comes.asks;
  tries = comes.tries;
  few = counts_few (machine_state old m) (record { moment = m; draws = []; outcomes = map attempt_view attempts }) machine.Tick old.tries new.tries comes.tries;
}

-- ---- a closing

-- it leaves the seal
closing_sealed : (s t : State) (m n : ℕ) (cause : machine.Cause) (sent : List Sent) → step s (closing m n cause) ≡ Some (record { state = t; sent = sent }) → t.sealed ≡ s.sealed
closing_sealed s t m n cause sent h = by (leb s.moment m) (machine.is_open s n) h
  where
    by : (b c : Bool) → cond b (cond c (Some (machine.closed (record s { moment = m }) n)) None) None ≡ Some (record { state = t; sent = sent }) → t.sealed ≡ s.sealed
    by true true k = ap (λ (x : Stepped). x.state.sealed) (sym (same_Some _ _ k))
    by true false k = cc
    by false c k = cc

pub asks_closing : {K D : Type 0} (m n : ℕ) (cause : machine.Cause) (old new : CoreState K D) → Closes m n cause old new → AsksKeeper [] (keeper_of old) (keeper_of new)
asks_closing m n cause old new c = asks_nothing [] (keeper_of old) (keeper_of new) refl c.asks (closing_sealed old.state new.state m n cause c.moves.sent c.moves.stepped)

-- a Close as it was asked for
pub closed_as_asked : {K D : Type 0} (draws : D → Uuid → D → Type 0) (at s : ℕ) (cause : machine.Cause) (old new : CoreState K D) → Closes at s cause old new → IsEntered draws at (machine.Close s cause) old answer.Done new
closed_as_asked draws at s cause old new c = record { entry = closing at s cause; tells = refl; keys = c.keys; moment = refl; drawn = c.drawn; uuids = refl; moves = c.moves; asks = asks_closing at s cause old new c; tries = omega (arith, c.tries); few = omega (arith, c.tries) }

-- a Take, if the list of its attempts cannot be allocated
pub closed_for_memory : {K D : Type 0} (draws : D → Uuid → D → Type 0) (at s : ℕ) (message : Message) (old new : CoreState K D) → Closes at s machine.Memory old new → IsEntered draws at (machine.Take s message) old answer.Closed new
closed_for_memory draws at s message old new c = record {
  entry = closing at s machine.Memory;
  tells = (inr refl, c.shut);
  keys = c.keys;
  moment = refl;
  drawn = c.drawn;
  uuids = refl;
  moves = c.moves;
  asks = asks_closing at s machine.Memory old new c;
  tries = omega (arith, c.tries);
  few = omega (arith, c.tries);
}

-- ---- before any entry

-- no session is open
abbrev pub none_open : OpenSessions
none_open = record { open_sessions = []; next = 1 }

-- the live state over a database that was opened
abbrev pub opened_over : {K : Type 0} → KeptDatabase K → Live K
opened_over d = record { database = d; sessions = none_open; watchers = []; waiting = record { untried = []; outstanding = [] }; outbox = record { frames = []; queues = [] }; tries = 0 }

-- its state
opened_over_state : {K : Type 0} (schema : Schema) (d : KeptDatabase K) → d.schema ≡ schema → d.sealed ≡ None → machine_state (opened_over d) 0 ≡ machine.opening schema d.committed
opened_over_state schema d same unsealed =
    ap (λ (v : Schema). record (machine_state (opened_over d) 0) { schema = v }) same ∙ ap (λ (v : Option Database). record (machine.opening schema d.committed) { sealed = v }) unsealed

-- the empty history is legal
pub has_none : {K : Type 0} (d : KeptDatabase K) (kept : List Entry) → Suits d.schema d.committed → d.sealed ≡ None → kept ≡ [] → HasHistory (machine_state (opened_over d) 0) kept
has_none d kept suits unsealed none = record {
  schema = d.schema;
  database = d.committed;
  suits = suits;
  history = [];
  sent = [];
  legal = ap (λ (s : State). Some (record { state = s; sent = [] })) (sym (opened_over_state d.schema d refl unsealed));
  uuids = refl;
  ends = ap (map entry_view) none;
}

-- and the core has followed it
pub follows_none : {K D : Type 0} (schema : Schema) (d : KeptDatabase K) (core : CoreState K D) → d.schema ≡ schema → d.sealed ≡ None → core.state ≡ machine_state (opened_over d) 0 → core.kept ≡ [] → core.outbox ≡ [] → Follows (machine.opening schema d.committed) [] none_given core
follows_none schema d core same unsealed is none nothing = record {
  sent = [];
  legal = ap (λ (s : State). Some (record { state = s; sent = [] })) (sym (is ∙ opened_over_state schema d same unsealed));
  kept = ([], ap (map entry_view) none);
  issued = λ s. ap (λ (waits : WaitingFrames). waiting_for s waits) (sym nothing);
}
