-- The results of a message and of a `Tick`, from the work and from settling.
use Rattle.std.proofs.Common.{◌≡◌, ℕ, ◌+◌, ◌≤◌, List, [], ◌++◌, map, length, refl, sym, ap, subst, ◌∙◌, cond, eqb, Bool, true, false, Option, Some, None, arith}
use Rattle.std.proofs.lemmas.Bool.{le-leb, false≢true}
use Rattle.ov_specs.specs.locks.Queues.{Queues, leave, told_of_leaving}
use Rattle.ov_specs.specs.machine.History.{frames_to}
use Rattle.ov_specs.specs.machine.Machine as machine
use Rattle.ov_specs.specs.machine.Machine.{State, Work, works, draws_for, is_kept, told}
use Rattle.ov_specs.specs.values.Uuid.{Uuid}
use Rattle.ov_specs.specs.wire.Message.{Message}
use Rattle.ov_specs.proofs.laws.Happening.{take_done, take_settled, tick_settled}
use Rattle.ov_outbox.specs.Frames.{waiting_for}
use Rattle.ov_sessions.specs.Sessions.{without_serial}
use Rattle.ov_laws.specs.Attempts.{own_attempts}
use Rattle.ov_laws.proofs.Few.{settling_makes, unkept_settles_none, kept_settles}
use Rattle.ov_watch.specs.Watching.{monitors_at}
use Rattle.ov_sessions.proofs.Keying.{still_all, still_others, left_then}
use Rattle.ov_history.specs.declared.event.Attempt.{Attempt}
use Rattle.ov_history.specs.declared.event.Outcome.{Outcome}
use Rattle.ov_history.specs.declared.event.Outcome.TheVariants as outcome
use Rattle.ov_live.specs.declared.live.Live.{Live}
use Rattle.ov_history.specs.Entries.{attempt_view, listed_by, listed_of, is_closing}
use Rattle.ov_live.specs.Asking.{AsksStore, keeper_state}
use Rattle.ov_live.specs.Handling.{Stays, WorkIsDone, WorksWith, work_at}
use Rattle.ov_live.specs.Sessions.{ClosesSession}
use Rattle.ov_live.specs.Counting.{RisesBy, CountsTries}
use Rattle.ov_live.specs.Settling.{ComesTo, SettlesAll, choice_of}
use Rattle.ov_live.specs.States.{machine_state}
use Rattle.ov_outbox.proofs.Answered.{posts_then}
use Rattle.ov_live.proofs.Asking.{asks_one, asks_then}
use Rattle.ov_live.proofs.Settlings.{closed_state, settling_at}

-- what is listed of attempt 1, and no more
listed_alone : (o : Option Outcome) → machine.listed 1 (map attempt_view (listed_by 1 o)) ≡ record { outcome = listed_of o; others = [] }
listed_alone None = refl
listed_alone (Some o) = refl

-- if no allocation failed, the work was done
done_where : {K : Type 0} (m n : ℕ) (w : Work) (draws : List Uuid) (old : Live K) (o : Option Outcome) (new : Live K) → is_closing o ≡ false → WorksWith (work_at m n w draws) old o new → WorkIsDone (work_at m n w draws) old o new
done_where m n w draws old None new h done = done
done_where m n w draws old (Some outcome.NoMemory) new h done = absurd (false≢true (sym h))
done_where m n w draws old (Some outcome.Committed) new h done = done
done_where m n w draws old (Some outcome.Exhausted) new h done = done
done_where m n w draws old (Some outcome.Failed) new h done = done

closing_is : (o : Option Outcome) → is_closing o ≡ true → o ≡ Some outcome.NoMemory
closing_is None h = absurd (false≢true h)
closing_is (Some outcome.NoMemory) h = refl
closing_is (Some outcome.Committed) h = absurd (false≢true h)
closing_is (Some outcome.Exhausted) h = absurd (false≢true h)
closing_is (Some outcome.Failed) h = absurd (false≢true h)

kept_is : (o : Option Outcome) → is_kept (listed_of o) ≡ true → o ≡ Some outcome.Committed
kept_is None h = absurd (false≢true h)
kept_is (Some outcome.NoMemory) h = absurd (false≢true h)
kept_is (Some outcome.Committed) h = refl
kept_is (Some outcome.Exhausted) h = absurd (false≢true h)
kept_is (Some outcome.Failed) h = absurd (false≢true h)

-- if it was kept, the same transactions wait
pub kept_waits : {K : Type 0} (m n : ℕ) (w : Work) (draws : List Uuid) (old : Live K) (o : Option Outcome) (new : Live K) → is_kept (listed_of o) ≡ true → WorksWith (work_at m n w draws) old o new → (new.waiting.untried ≡ old.waiting.untried) × (new.waiting ≡ old.waiting)
kept_waits m n w draws old None new h done = absurd (false≢true h)
kept_waits m n w draws old (Some outcome.NoMemory) new h done = absurd (false≢true h)
kept_waits m n w draws old (Some outcome.Committed) new h done = (done.untried, done.kept refl)
kept_waits m n w draws old (Some outcome.Exhausted) new h done = absurd (false≢true h)
kept_waits m n w draws old (Some outcome.Failed) new h done = absurd (false≢true h)

-- a closing after work for which an allocation failed is one of the live state before
closes_from : {K : Type 0} (n : ℕ) (old mid new : Live K) → Stays n old mid → ClosesSession n mid new → ClosesSession n (record old { tries = mid.tries }) new
closes_from {K} n old mid new stays c = record {
  same = c.same ∙ ap (λ (l : Live K). record l {
    sessions = record l.sessions { open_sessions = without_serial n l.sessions.open_sessions };
    watchers = new.watchers;
    waiting = record l.waiting { outstanding = machine.of_others n l.waiting.outstanding };
    outbox = new.outbox;
  }) stays.same;
  watching = λ other. c.watching other ∙ by other (eqb other n) refl;
  queues = c.queues ∙ ap (leave n) stays.queues;
  forgotten = λ h. c.forgotten (stays.frames n ∙ h);
  posts = λ s. c.posts s ∙ (ap (λ (fs : List (List ℕ)). fs ++ frames_to s (told (told_of_leaving n mid.outbox.queues))) (stays.frames s) ∙ ap (λ (qs : Queues). waiting_for s old.outbox.frames ++ frames_to s (told (told_of_leaving n qs))) stays.queues);
}
  where
    by : (other : ℕ) (b : Bool) → eqb other n ≡ b → cond b [] (monitors_at other mid.watchers) ≡ cond b [] (monitors_at other old.watchers)
    by other true is = refl
    by other false is = stays.watching other is

-- the work on a message, in which the live state went from one to another
module _ {K : Type 0} (failed : K → ℕ) (m n : ℕ) (message : Message) (draws : List Uuid) (old mid : Live K) (there : machine.is_open (machine_state old m) n ≡ true) (resting : old.waiting.untried ≡ []) where
  abbrev work : Work
  work = machine.work_of (machine_state old m) n message

  abbrev choice : List Attempt → machine.Choice
  choice attempts = record { moment = m; draws = draws; outcomes = map attempt_view attempts }

  -- the attempts that are counted, if nothing was kept
  counted : (o : Option Outcome) → is_kept (listed_of o) ≡ false → RisesBy (listed_of o) (own_attempts work) old.tries mid.tries → CountsTries (machine_state old m) (choice (listed_by 1 o)) (machine.Take n message) old.tries mid.tries
  counted None same rises = omega (arith, rises, unkept_settles_none (machine_state old m) (choice (listed_by 1 None)) n message refl)
  counted (Some outcome.NoMemory) same rises = (rises.0, omega (arith, rises.1))
  counted (Some outcome.Committed) same rises = cc
  counted (Some outcome.Exhausted) same rises = omega (arith, rises, unkept_settles_none (machine_state old m) (choice (listed_by 1 (Some outcome.Exhausted))) n message refl)
  counted (Some outcome.Failed) same rises = omega (arith, rises, unkept_settles_none (machine_state old m) (choice (listed_by 1 (Some outcome.Failed))) n message refl)

  -- an allocation failed, and the session is closed
  pub take_closes : (o : Option Outcome) (new : Live K) (attempts : List Attempt) → is_closing o ≡ true → attempts ≡ listed_by 1 o → ClosesSession n mid new → WorksWith (work_at m n work draws) old o mid
      → AsksStore failed o old.database mid.database → failed old.database.keeper ≤ failed mid.database.keeper → RisesBy (listed_of o) (own_attempts work) old.tries mid.tries → ComesTo failed (choice_of m draws attempts) (machine.Take n message) old new
  take_closes o new attempts closing listed closes done asks counts tries =
      let no_memory = closing_is o closing in
      let (few, stays) = rw no_memory at done in
      let c = closes_from n old mid new stays closes in
      let database : new.database ≡ mid.database = ap (λ (l : Live K). l.database) closes.same in
      rw (listed, no_memory) (record {
        sent = (machine.closed (machine_state old m) n).sent;
        happens = take_done (machine_state old m) (choice (listed_by 1 (Some outcome.NoMemory))) n message (record { outcome = Some machine.NoMemory; others = [] }) (machine.closed (machine_state old m) n) there refl
            (rw (le-leb (length draws) (draws_for work) few) refl) refl refl
            ∙ ap (λ (s : State). Some (record { state = s; sent = (machine.closed (machine_state old m) n).sent })) (sym (closed_state m n (record old { tries = mid.tries }) new c));
        posts = c.posts;
        asks = rw database (asks_one failed 1 (Some outcome.NoMemory) old.database mid.database (rw no_memory at asks) counts);
        left = rw c.same (still_others n old.sessions.open_sessions);
        tries = subst (λ (count : ℕ). CountsTries (machine_state old m) (choice (listed_by 1 (Some outcome.NoMemory))) (machine.Take n message) old.tries count) (sym (ap (λ (l : Live K). l.tries) closes.same)) (counted (Some outcome.NoMemory) refl (rw no_memory at tries));
        untried = ap (λ (l : Live K). l.waiting.untried) c.same ∙ resting;
      })

  -- it was done, and nothing was kept
  pub take_ends : (o : Option Outcome) (attempts : List Attempt) → is_closing o ≡ false → is_kept (listed_of o) ≡ false → attempts ≡ listed_by 1 o → WorksWith (work_at m n work draws) old o mid
      → AsksStore failed o old.database mid.database → failed old.database.keeper ≤ failed mid.database.keeper → RisesBy (listed_of o) (own_attempts work) old.tries mid.tries → ComesTo failed (choice_of m draws attempts) (machine.Take n message) old mid
  take_ends o attempts open' same listed did asks counts tries =
      let done = done_where m n work draws old o mid open' did in
      rw listed (record {
        sent = done.sent;
        happens = take_done (machine_state old m) (choice (listed_by 1 o)) n message (record { outcome = listed_of o; others = [] }) (record { state = machine_state mid m; sent = done.sent }) there (listed_alone o) done.works same refl;
        posts = done.posts;
        asks = asks_one failed 1 o old.database mid.database asks counts;
        left = rw done.sessions (still_all old.sessions.open_sessions);
        tries = counted o same tries;
        untried = done.untried ∙ resting;
      })

  -- it was kept, and the waiting transactions were settled
  pub take_settles : (o : Option Outcome) (new : Live K) (before attempts : List Attempt) → is_closing o ≡ false → is_kept (listed_of o) ≡ true → before ≡ listed_by 1 o → WorksWith (work_at m n work draws) old o mid
      → AsksStore failed o old.database mid.database → failed old.database.keeper ≤ failed mid.database.keeper → RisesBy (listed_of o) (own_attempts work) old.tries mid.tries
      → SettlesAll failed m 2 (settling_at mid before) (settling_at new attempts) → ComesTo failed (choice_of m draws attempts) (machine.Take n message) old new
  take_settles o new before attempts open' kept listed did asks counts tries s =
      let is = kept_is o kept in
      let done = done_where m n work draws old o mid open' did in
      let all : map attempt_view attempts ≡ map attempt_view (listed_by 1 (Some outcome.Committed)) ++ s.made = s.lists ∙ ap (λ (list : List Attempt). map attempt_view list ++ s.made) (listed ∙ ap (listed_by 1) is) in
      let worked : works (machine_state old m) n draws (Some machine.Committed) work ≡ Some (record { state = machine_state mid m; sent = done.sent }) = subst (λ (v : Option Outcome). works (machine_state old m) n draws (listed_of v) work ≡ Some (record { state = machine_state mid m; sent = done.sent })) is done.works in
      let asked = rw is at asks in
      let rises : mid.tries ≡ old.tries + own_attempts work = rw is at tries in
      let after = kept_settles (machine_state old m) (record { moment = m; draws = draws; outcomes = map attempt_view (listed_by 1 (Some outcome.Committed)) ++ s.made }) n message (record { state = machine_state mid m; sent = done.sent })
      (record { tried = record { stepped = record { state = machine_state new m; sent = s.sent }; others = [] }; next = s.next; has_changed = false }) refl worked s.settles in
      record {
        sent = done.sent ++ s.sent;
        happens = ap (λ (list : List machine.Attempt). machine.happens (machine_state old m) (record { moment = m; draws = draws; outcomes = list }) (machine.Take n message)) all
            ∙ take_settled (machine_state old m) (record { moment = m; draws = draws; outcomes = map attempt_view (listed_by 1 (Some outcome.Committed)) ++ s.made }) n message (record { outcome = Some machine.Committed; others = s.made }) (record { state = machine_state mid m; sent = done.sent })
            there refl worked (record { tried = record { stepped = record { state = machine_state new m; sent = s.sent }; others = [] }; next = s.next; has_changed = false }) refl s.settles refl;
        posts = posts_then done.sent s.sent old.outbox.frames mid.outbox.frames new.outbox.frames done.posts s.posts;
        asks = rw all (asks_then (map attempt_view (listed_by 1 (Some outcome.Committed))) s.made (keeper_state failed old.database) (keeper_state failed mid.database) (keeper_state failed new.database)
            (asks_one failed 1 (Some outcome.Committed) old.database mid.database asked counts) s.asks);
        left = left_then old.sessions.open_sessions mid.sessions.open_sessions new.sessions.open_sessions (rw done.sessions (still_all old.sessions.open_sessions)) s.left;
        tries = subst (λ (list : List machine.Attempt). CountsTries (machine_state old m) (record { moment = m; draws = draws; outcomes = list }) (machine.Take n message) old.tries new.tries) (sym all) (omega (arith, rises, s.tries, after));
        untried = s.untried;
      }

-- the waiting transactions were settled as time passed
pub tick_settles : {K : Type 0} (failed : K → ℕ) (m : ℕ) (old new : Live K) (before attempts : List Attempt) → before ≡ [] → SettlesAll failed m 1 (settling_at old before) (settling_at new attempts) → ComesTo failed (choice_of m [] attempts) machine.Tick old new
tick_settles failed m old new before attempts none s =
    let all : map attempt_view attempts ≡ s.made = s.lists ∙ ap (λ (list : List Attempt). map attempt_view list ++ s.made) none in
    record {
      sent = s.sent;
      happens = ap (λ (list : List machine.Attempt). machine.happens (machine_state old m) (record { moment = m; draws = []; outcomes = list }) machine.Tick) all
          ∙ tick_settled (machine_state old m) (record { moment = m; draws = []; outcomes = s.made }) (record { tried = record { stepped = record { state = machine_state new m; sent = s.sent }; others = [] }; next = s.next; has_changed = false }) refl s.settles refl;
      posts = s.posts;
      asks = rw all s.asks;
      left = s.left;
      tries = subst (λ (list : List machine.Attempt). CountsTries (machine_state old m) (record { moment = m; draws = []; outcomes = list }) machine.Tick old.tries new.tries) (sym all)
          (omega (arith, s.tries, settling_makes (machine_state old m) 1 s.made (record { tried = record { stepped = record { state = machine_state new m; sent = s.sent }; others = [] }; next = s.next; has_changed = false }) s.settles));
      untried = s.untried;
    }
