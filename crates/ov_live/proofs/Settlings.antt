-- Settling under way, try by try, as its loop goes on.
use Rattle.std.proofs.Common.{◌≡◌, ℕ, ◌+◌, ◌-◌, ◌*◌, ◌<◌, ◌≤◌, List, [], ◌∷◌, ◌++◌, map, length, refl, sym, ap, subst, ◌∙◌, Bool, true, false, cond, eqb, Option, Some, None, append_assoc, arith}
use Rattle.std.specs.Prelude.{not}
use Rattle.std.specs.List.{filter, list_any}
use Rattle.std.proofs.lemmas.List.{append-nil, map-append, length-append}
use Rattle.std.proofs.lemmas.Bool.{false≢true}
use Rattle.ov_specs.specs.locks.Queues.{Queues, owns, told_of_leaving}
use Rattle.ov_specs.specs.machine.History.{frames_to}
use Rattle.ov_specs.specs.machine.Machine as machine
use Rattle.ov_specs.specs.machine.Machine.{State, Sent, Outstanding, tries_again, told}
use Rattle.ov_specs.specs.operations.Transaction.{TransactionOutcome, Waits, transaction}
use Rattle.ov_specs.proofs.laws.Settling.{settle_counts}
use Rattle.ov_specs.proofs.laws.SettlingOn.{Reaches, made_by, reaches_first, reaches_skip, reaches_next, reaches_again, reaches_last, at_point}
use Rattle.ov_db.specs.KeptDatabase.{KeptDatabase}
use Rattle.ov_outbox.specs.Frames.{waiting_for, PostsSent, HasSameFrames}
use Rattle.ov_outbox.specs.Outbox.{Outbox}
use Rattle.ov_sessions.specs.Sessions.{IsLeft, has_serial}
use Rattle.ov_requests.specs.Waiting.{WaitingList, many}
use Rattle.ov_watch.specs.Watching.{Watching}
use Rattle.ov_sessions.specs.declared.session.Session.{Session}
use Rattle.ov_sessions.proofs.Keying.{still_all, still_others, left_then}
use Rattle.ov_live.specs.declared.attempt.Trial.TheVariants.{Done}
use Rattle.ov_history.specs.declared.event.Attempt.{Attempt}
use Rattle.ov_history.specs.declared.event.Outcome.{Outcome}
use Rattle.ov_history.specs.declared.event.Outcome.TheVariants as outcome
use Rattle.ov_live.specs.declared.live.Live.{Live}
use Rattle.ov_history.specs.Entries.{attempt_view, listed_by, listed_of, is_closing}
use Rattle.ov_live.specs.Asking.{AsksStore, AsksKeeper, keeper_state}
use Rattle.ov_live.specs.Handling.{IsCompleted, IsTrial, with_db}
use Rattle.ov_live.specs.Sessions.{ClosesSession}
use Rattle.ov_live.specs.States.{machine_state, machine_sessions}
use Rattle.ov_live.specs.Settling.{SettlingState, SettlesSoFar, SettlesAll, AfterTry, tried_again, to_do}
use Rattle.ov_outbox.proofs.Answered.{posts_then}
use Rattle.ov_live.proofs.Asking.{asks_nothing, asks_one, asks_then}
use Rattle.ov_live.proofs.Counting.{few_dropped, few_blocked, few_done, few_again, falls_dropped, falls_again}
use Rattle.ov_live.proofs.Watching.{any-serial, filter-same, sessions-without}
use Rattle.ov_live.proofs.Workings.{request, trial_state, posts_none}

-- ---- lists

-- at most as many are kept
length-kept : {A : Type 0} (kept : A → Bool) (xs : List A) → length (filter kept xs) ≤ length xs
length-kept kept [] = omega arith
length-kept kept (x ∷ xs) = by (kept x) (length-kept kept xs)
  where
    by : (b : Bool) → length (filter kept xs) ≤ length xs → length (cond b (x ∷ filter kept xs) (filter kept xs)) ≤ length (x ∷ xs)
    by true h = omega (arith, h)
    by false h = omega (arith, h)

-- what is listed of an attempt
pub made_same : (number : ℕ) (o : Option Outcome) → map attempt_view (listed_by number o) ≡ made_by number (listed_of o)
made_same number None = refl
made_same number (Some o) = refl

-- at most one
pub listed_few : (number : ℕ) (o : Option Outcome) → length (listed_by number o) ≤ 1
listed_few number None = omega arith
listed_few number (Some o) = omega arith

-- ---- what a try leads to

-- the state that a closing leaves
pub closed_state : {K : Type 0} (m n : ℕ) (old new : Live K) → ClosesSession n old new → machine_state new m ≡ (machine.closed (machine_state old m) n).state
closed_state m n old new c = rw (c.same, c.queues, sessions-without n old.watchers new.watchers c.watching old.sessions.open_sessions) refl

-- after a finished try no more transactions wait than before
pub after_few : {K : Type 0} (n : ℕ) (o : Option Outcome) (live new : Live K) → AfterTry n o live new → many new.waiting ≤ many live.waiting
after_few n (Some outcome.NoMemory) live new c = rw c.same (omega (arith, length-kept (λ (w : Outstanding). not (eqb w.session n)) live.waiting.outstanding))
after_few n (Some outcome.Committed) live new is =
    rw is (omega (arith, length-append live.waiting.outstanding (filter (λ w. has_serial w.session live.sessions.open_sessions) live.waiting.untried), length-kept (λ (w : Outstanding). has_serial w.session live.sessions.open_sessions) live.waiting.untried))
after_few n (Some outcome.Exhausted) live new is = rw is (omega arith)
after_few n (Some outcome.Failed) live new is = rw is (omega arith)
after_few n None live new is = rw is (omega arith)

-- and the same are left for the pass to try, unless all are tried again
pub after_untried : {K : Type 0} (n : ℕ) (o : Option Outcome) (live new : Live K) → machine.is_kept (listed_of o) ≡ false → AfterTry n o live new → new.waiting.untried ≡ live.waiting.untried
after_untried {K} n (Some outcome.NoMemory) live new h c = ap (λ (l : Live K). l.waiting.untried) c.same
after_untried n (Some outcome.Committed) live new h is = absurd (false≢true (sym h))
after_untried {K} n (Some outcome.Exhausted) live new h is = ap (λ (l : Live K). l.waiting.untried) is
after_untried {K} n (Some outcome.Failed) live new h is = ap (λ (l : Live K). l.waiting.untried) is
after_untried {K} n None live new h is = ap (λ (l : Live K). l.waiting.untried) is

-- and less to do
pub after_falls : {K : Type 0} (n : ℕ) (o : Option Outcome) (live new : Live K) (left all : ℕ) → AfterTry n o live new → length live.waiting.untried + 1 ≡ left → many live.waiting + 1 ≡ all → to_do new.waiting < left + all * all
after_falls {K} n (Some outcome.Committed) live new left all is one fewer =
    let few = after_few n (Some outcome.Committed) live new is in
    let falls = falls_again left all (many new.waiting) (omega (arith, one)) (omega (arith, fewer, few)) in
    rw is (omega (arith, rw is at falls))
after_falls n (Some outcome.NoMemory) live new left all c one fewer =
    falls_dropped left all (length new.waiting.untried) (many new.waiting) (ap (λ ws. length ws + 1) (after_untried n (Some outcome.NoMemory) live new refl c) ∙ one) (omega (arith, fewer, after_few n (Some outcome.NoMemory) live new c))
after_falls n (Some outcome.Exhausted) live new left all is one fewer =
    falls_dropped left all (length new.waiting.untried) (many new.waiting) (ap (λ ws. length ws + 1) (after_untried n (Some outcome.Exhausted) live new refl is) ∙ one) (omega (arith, fewer, after_few n (Some outcome.Exhausted) live new is))
after_falls n (Some outcome.Failed) live new left all is one fewer =
    falls_dropped left all (length new.waiting.untried) (many new.waiting) (ap (λ ws. length ws + 1) (after_untried n (Some outcome.Failed) live new refl is) ∙ one) (omega (arith, fewer, after_few n (Some outcome.Failed) live new is))
after_falls n None live new left all is one fewer =
    falls_dropped left all (length new.waiting.untried) (many new.waiting) (ap (λ ws. length ws + 1) (after_untried n None live new refl is) ∙ one) (omega (arith, fewer, after_few n None live new is))

-- by what is asked of its outcome
pub after_closing : {K : Type 0} (n : ℕ) (o : Option Outcome) (live new : Live K) → is_closing o ≡ true → ClosesSession n live new → AfterTry n o live new
after_closing n None live new h c = absurd (false≢true h)
after_closing n (Some outcome.NoMemory) live new h c = c
after_closing n (Some outcome.Committed) live new h c = absurd (false≢true h)
after_closing n (Some outcome.Exhausted) live new h c = absurd (false≢true h)
after_closing n (Some outcome.Failed) live new h c = absurd (false≢true h)

pub after_kept : {K : Type 0} (n : ℕ) (o : Option Outcome) (live new : Live K) → machine.is_kept (listed_of o) ≡ true → new ≡ tried_again live → AfterTry n o live new
after_kept n None live new h is = absurd (false≢true h)
after_kept n (Some outcome.NoMemory) live new h is = absurd (false≢true h)
after_kept n (Some outcome.Committed) live new h is = is
after_kept n (Some outcome.Exhausted) live new h is = absurd (false≢true h)
after_kept n (Some outcome.Failed) live new h is = absurd (false≢true h)

pub after_other : {K : Type 0} (n : ℕ) (o : Option Outcome) (live : Live K) → is_closing o ≡ false → machine.is_kept (listed_of o) ≡ false → AfterTry n o live live
after_other n None live h k = refl
after_other n (Some outcome.NoMemory) live h k = absurd (false≢true (sym h))
after_other n (Some outcome.Committed) live h k = absurd (false≢true (sym k))
after_other n (Some outcome.Exhausted) live h k = refl
after_other n (Some outcome.Failed) live h k = refl

-- those whose sessions are open, by the serials of the code
still-same : (watching : Watching) (sessions : List Session) (waiting : List Outstanding) → filter (λ (o : Outstanding). list_any (λ (n : machine.Session). eqb n.serial o.session) (machine_sessions watching sessions)) waiting ≡ filter (λ (o : Outstanding). has_serial o.session sessions) waiting
still-same watching sessions waiting = filter-same _ _ (λ o. any-serial watching o.session sessions) waiting

-- ---- from one try to the next

-- the live state, with these attempts listed
abbrev pub settling_at : {K : Type 0} → Live K → List Attempt → SettlingState K
settling_at live listed = record { live = live; listed = listed }

module _ {K : Type 0} (failed : K → ℕ) (m first : ℕ) (from : Live K) (before : List Attempt) (now : Live K) (listed : List Attempt) (number : ℕ) where
  -- the bound on the number of the next try
  abbrev Few : ℕ → WaitingList → Type 0
  Few next w =
      next + next + (length w.untried + length w.untried) + many w * many w
      ≤ first + first + (length from.waiting.outstanding + length from.waiting.outstanding * length from.waiting.outstanding) + many w

  -- one attempt more
  one_more : (x : SettlesSoFar failed m first (settling_at from before) (settling_at now listed) number) (o : Option Outcome) (sent : List Sent) (new : Live K) (more : List Attempt) → more ≡ listed ++ listed_by number o
      → Reaches (machine_state from m) first (x.made ++ made_by number (listed_of o)) (at_point (machine_state new m) (x.sent ++ sent) (number + 1) new.waiting.untried)
      → PostsSent sent now.outbox.frames new.outbox.frames → AsksStore failed o now.database new.database → failed now.database.keeper ≤ failed new.database.keeper
      → IsLeft now.sessions.open_sessions new.sessions.open_sessions → new.tries ≡ now.tries + 1 → Few (number + 1) new.waiting → SettlesSoFar failed m first (settling_at from before) (settling_at new more) (number + 1)
  one_more x o sent new more is reaches posts asks counts left tries few = record {
    made = x.made ++ made_by number (listed_of o);
    lists = ap (map attempt_view) is ∙ (map-append attempt_view listed (listed_by number o) ∙ (ap (λ (list : List machine.Attempt). list ++ map attempt_view (listed_by number o)) x.lists
        ∙ (ap (λ (list : List machine.Attempt). (map attempt_view before ++ x.made) ++ list) (made_same number o) ∙ append_assoc (map attempt_view before) x.made (made_by number (listed_of o)))));
    sent = x.sent ++ sent;
    reaches = reaches;
    posts = posts_then x.sent sent from.outbox.frames now.outbox.frames new.outbox.frames x.posts posts;
    asks = asks_then x.made (made_by number (listed_of o)) (keeper_state failed from.database) (keeper_state failed now.database) (keeper_state failed new.database) x.asks
        (subst (λ (list : List machine.Attempt). AsksKeeper list (keeper_state failed now.database) (keeper_state failed new.database)) (made_same number o) (asks_one failed number o now.database new.database asks counts));
    left = left_then from.sessions.open_sessions now.sessions.open_sessions new.sessions.open_sessions x.left left;
    tries = omega (arith, x.tries, tries);
    few = few;
  }

  module _ (x : SettlesSoFar failed m first (settling_at from before) (settling_at now listed) number) (w : Outstanding) (rest : List Outstanding) (next : now.waiting.untried ≡ w ∷ rest) where
    here : Reaches (machine_state from m) first x.made (at_point (machine_state now m) x.sent number (w ∷ rest))
    here = subst (λ (ws : List Outstanding). Reaches (machine_state from m) first x.made (at_point (machine_state now m) x.sent number ws)) next x.reaches

    one : length rest + 1 ≡ length now.waiting.untried
    one = omega (arith, ap (λ (ws : List Outstanding). length ws) next)

    -- one whose session was closed is not tried
    pub skipped : has_serial w.session now.sessions.open_sessions ≡ false → SettlesSoFar failed m first (settling_at from before) (settling_at (record now { waiting = record now.waiting { untried = rest } }) listed) number
    skipped away = record {
      made = x.made;
      lists = x.lists;
      sent = x.sent;
      reaches = reaches_skip (machine_state from m) first x.made (machine_state now m) x.sent number w rest here (any-serial now.watchers w.session now.sessions.open_sessions ∙ away);
      posts = x.posts;
      asks = x.asks;
      left = x.left;
      tries = x.tries;
      few = few_dropped number (first + first + (length from.waiting.outstanding + length from.waiting.outstanding * length from.waiting.outstanding)) (length now.waiting.untried) (many now.waiting) x.few (length rest) (length rest + length now.waiting.outstanding) one (omega (arith, one));
    }

    module _ (open' : has_serial w.session now.sessions.open_sessions ≡ true) where
      there : machine.is_open (machine_state now m) w.session ≡ true
      there = any-serial now.watchers w.session now.sessions.open_sessions ∙ open'

      -- its result
      abbrev on : TransactionOutcome
      on = transaction now.database.schema now.database.committed (owns now.outbox.queues w.session) w.draws (m - w.arrival) w.operations

      -- one that changed nothing that was kept
      next_one : (o : Option Outcome) → machine.is_kept (listed_of o) ≡ false → (sent : List Sent) (new : Live K) (more : List Attempt) → more ≡ listed ++ listed_by number o
          → tries_again (machine_state now m) w (listed_of o) ≡ Some (record { state = machine_state new m; sent = sent }) → new.waiting.untried ≡ rest
          → PostsSent sent now.outbox.frames new.outbox.frames → AsksStore failed o now.database new.database → failed now.database.keeper ≤ failed new.database.keeper
          → IsLeft now.sessions.open_sessions new.sessions.open_sessions → new.tries ≡ now.tries + 1 → Few (number + 1) new.waiting → SettlesSoFar failed m first (settling_at from before) (settling_at new more) (number + 1)
      next_one o not_kept sent new more is again untried posts asks counts left tries few =
          one_more x o sent new more is
          (subst (λ (ws : List Outstanding). Reaches (machine_state from m) first (x.made ++ made_by number (listed_of o)) (at_point (machine_state new m) (x.sent ++ sent) (number + 1) ws)) (sym untried)
          (reaches_next (machine_state from m) first x.made (machine_state now m) x.sent number w rest here (listed_of o) (record { state = machine_state new m; sent = sent }) there again not_kept))
          posts asks counts left tries few

      -- one that is blocked again, which leaves the waiting frames as they are
      pub blocked : (outbox : Outbox) (timeout : Option ℕ) → outbox.queues ≡ now.outbox.queues → HasSameFrames now.outbox.frames outbox.frames → on ≡ Waits timeout
          → SettlesSoFar failed m first (settling_at from before) (settling_at (record now { outbox = outbox; tries = now.tries + 1; waiting = record { untried = rest; outstanding = now.waiting.outstanding ++ record w { timeout = timeout } ∷ [] } }) listed) (number + 1)
      blocked outbox timeout queues silent waits =
          next_one None refl [] (record now { outbox = outbox; tries = now.tries + 1; waiting = record { untried = rest; outstanding = now.waiting.outstanding ++ record w { timeout = timeout } ∷ [] } }) listed (sym (append-nil listed))
          (rw (waits, queues) refl) refl (posts_none now.outbox.frames outbox.frames silent) refl (omega arith) (still_all now.sessions.open_sessions) refl
          (let same : length rest + length (now.waiting.outstanding ++ record w { timeout = timeout } ∷ []) ≡ many now.waiting = omega (arith, one, length-append now.waiting.outstanding (record w { timeout = timeout } ∷ [])) in
          rw same (few_blocked number (first + first + (length from.waiting.outstanding + length from.waiting.outstanding * length from.waiting.outstanding)) (length now.waiting.untried) (many now.waiting) x.few (length rest) one))

      -- one that is done
      module _ (db : KeptDatabase K) (outbox : Outbox) (queues : outbox.queues ≡ now.outbox.queues) where
        abbrev mid : Live K
        mid = record now { database = db; outbox = outbox; tries = now.tries + 1; waiting = record now.waiting { untried = rest } }

        few_after : (o : Option Outcome) (new : Live K) → AfterTry w.session o mid new → machine.is_kept (listed_of o) ≡ false → Few (number + 1) new.waiting
        few_after o new after h =
            few_done number (first + first + (length from.waiting.outstanding + length from.waiting.outstanding * length from.waiting.outstanding)) (length now.waiting.untried) (many now.waiting) x.few
            (length new.waiting.untried) (many new.waiting) (omega (arith, ap (λ (ws : List Outstanding). length ws) (after_untried w.session o mid new h after), one)) (omega (arith, one, after_few w.session o mid new after))

        -- what is tried again comes to what completes
        completes_again : (o : Option Outcome) (c : IsCompleted (request (machine_sessions now.watchers now.sessions.open_sessions) w.session w.id on) (trial_state now.database now.outbox.frames) o (trial_state db outbox.frames))
            → tries_again (machine_state now m) w (listed_of o) ≡ machine.attempt (machine_state now m) w on (listed_of o)
            → tries_again (machine_state now m) w (listed_of o) ≡ Some (record { state = with_db (machine_state now m) db; sent = c.sent })
        completes_again o c is = is ∙ (ap (λ (t : TransactionOutcome). machine.attempt (machine_state now m) w t (listed_of o)) c.is ∙ c.comes (machine_state now m) refl)

        -- the state over the database is that of the live state
        state_is : machine_state mid m ≡ with_db (machine_state now m) db
        state_is = rw queues refl

        unkept : (o : Option Outcome) (new : Live K) (more : List Attempt) → more ≡ listed ++ listed_by number o → machine.is_kept (listed_of o) ≡ false → AfterTry w.session o mid new → new ≡ mid
            → tries_again (machine_state now m) w (listed_of o) ≡ machine.attempt (machine_state now m) w on (listed_of o)
            → IsCompleted (request (machine_sessions now.watchers now.sessions.open_sessions) w.session w.id on) (trial_state now.database now.outbox.frames) o (trial_state db outbox.frames)
            → AsksStore failed o now.database db → failed now.database.keeper ≤ failed db.keeper → SettlesSoFar failed m first (settling_at from before) (settling_at new more) (number + 1)
        unkept o new more is h after same tries c asks counts =
            let few = few_after o new after h in
            rw same (next_one o h c.sent mid more is (completes_again o c tries ∙ ap (λ (s : State). Some (record { state = s; sent = c.sent })) (sym state_is)) refl c.posts asks counts (still_all now.sessions.open_sessions) refl (rw same at few))

        pub done : (o : Option Outcome) (new : Live K) (more : List Attempt) → more ≡ listed ++ listed_by number o → AfterTry w.session o mid new
            → IsTrial (request (machine_sessions now.watchers now.sessions.open_sessions) w.session w.id on) (trial_state now.database now.outbox.frames) (Done o) (trial_state db outbox.frames)
            → AsksStore failed o now.database db → failed now.database.keeper ≤ failed db.keeper → SettlesSoFar failed m first (settling_at from before) (settling_at new more) (number + 1)
        done (Some outcome.NoMemory) new more is c (same, silent) asks counts =
            let sent = (machine.closed (machine_state now m) w.session).sent in
            let few = few_after (Some outcome.NoMemory) new c refl in
            next_one (Some outcome.NoMemory) refl sent new more is
            (rw (closed_state m w.session mid new c, queues, same) refl)
            (ap (λ (l : Live K). l.waiting.untried) c.same)
            (λ s. c.posts s ∙ (ap (λ (fs : List (List ℕ)). fs ++ frames_to s (told (told_of_leaving w.session outbox.queues))) (silent s) ∙ ap (λ (qs : Queues). waiting_for s now.outbox.frames ++ frames_to s (told (told_of_leaving w.session qs))) queues))
            (ap (λ (l : Live K). l.database) c.same ∙ same)
            (omega (arith, counts, ap (λ (l : Live K). failed l.database.keeper) c.same))
            (rw c.same (still_others w.session now.sessions.open_sessions))
            (ap (λ (l : Live K). l.tries) c.same) few
        done None new more is after c asks counts = unkept None new more is refl after after refl c asks counts
        done (Some outcome.Exhausted) new more is after c asks counts = unkept (Some outcome.Exhausted) new more is refl after after refl c asks counts
        done (Some outcome.Failed) new more is after c asks counts = unkept (Some outcome.Failed) new more is refl after after refl c asks counts
        done (Some outcome.Committed) new more is after c asks counts =
            rw after (one_more x (Some outcome.Committed) c.sent (tried_again mid) more is
            (again c)
            c.posts asks counts (still_all now.sessions.open_sessions) refl
            (let fewer = after_few w.session (Some outcome.Committed) mid (tried_again mid) refl in
            let few = few_again number (first + first + (length from.waiting.outstanding + length from.waiting.outstanding * length from.waiting.outstanding)) (length now.waiting.untried) (many now.waiting) x.few (many (tried_again mid).waiting) (omega (arith, one)) (omega (arith, one, fewer)) in
            omega (arith, few)))
          where
            again : (c : IsCompleted (request (machine_sessions now.watchers now.sessions.open_sessions) w.session w.id on) (trial_state now.database now.outbox.frames) (Some outcome.Committed) (trial_state db outbox.frames))
                → Reaches (machine_state from m) first (x.made ++ made_by number (listed_of (Some outcome.Committed))) (at_point (machine_state (tried_again mid) m) (x.sent ++ c.sent) (number + 1) (tried_again mid).waiting.untried)
            again c =
                let reached = reaches_again (machine_state from m) first x.made (machine_state now m) x.sent number w rest here (Some machine.Committed) (record { state = with_db (machine_state now m) db; sent = c.sent }) there (completes_again (Some outcome.Committed) c refl) refl in
                rw (queues, ← still-same now.watchers now.sessions.open_sessions rest) reached

-- ---- the first and the last

-- all waiting transactions are to be tried
pub begun : {K : Type 0} (failed : K → ℕ) (m first : ℕ) (old : Live K) (listed : List Attempt) → old.waiting.untried ≡ []
    → SettlesSoFar failed m first (settling_at old listed) (settling_at (record old { waiting = record { untried = old.waiting.outstanding; outstanding = old.waiting.untried } }) listed) first
begun failed m first old listed none = rw none (record {
  made = [];
  lists = sym (append-nil (map attempt_view listed));
  sent = [];
  reaches = reaches_first (machine_state old m) first;
  posts = posts_none old.outbox.frames old.outbox.frames (λ other. refl);
  asks = asks_nothing [] (keeper_state failed old.database) (keeper_state failed old.database) refl (refl, refl) refl;
  left = still_all old.sessions.open_sessions;
  tries = refl;
  few = omega arith;
})

-- none is left to be tried
pub ended : {K : Type 0} (failed : K → ℕ) (m first : ℕ) (old : Live K) (before : List Attempt) (new : Live K) (listed : List Attempt) (number : ℕ) → SettlesSoFar failed m first (settling_at old before) (settling_at new listed) number → new.waiting.untried ≡ []
    → SettlesAll failed m first (settling_at old before) (settling_at new listed)
ended failed m first old before new listed number x none = record {
  made = x.made;
  lists = x.lists;
  sent = x.sent;
  next = number;
  settles = settled;
  posts = x.posts;
  asks = x.asks;
  left = x.left;
  tries = omega (arith, x.tries, (settle_counts (machine_state old m) first x.made _ settled).up);
  untried = none;
}
  where
    settled : machine.settle (machine_state old m) first x.made ≡ Some (record { tried = record { stepped = record { state = machine_state new m; sent = x.sent }; others = [] }; next = number; has_changed = false })
    settled = reaches_last (machine_state old m) first x.made (machine_state new m) x.sent number (subst (λ (ws : List Outstanding). Reaches (machine_state old m) first x.made (at_point (machine_state new m) x.sent number ws)) none x.reaches)
