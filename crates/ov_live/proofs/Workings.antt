-- The results of a try of a transaction, and of the work on a message.
use Rattle.std.proofs.Common.{◌≡◌, ◌≢◌, ℕ, List, [], ◌∷◌, ◌++◌, length, map, refl, sym, ap, ◌∙◌, eqb, cond, true, false, Option, Some, None, arith, ◌⊎◌, inl, inr}
use Rattle.std.specs.Prelude.{option_to_list, codes, is_some}
use Rattle.std.proofs.lemmas.List.{append-nil}
use Rattle.std.proofs.lemmas.Bool.{eq-eqb}
use Rattle.serde_json.specs.Data.{Data, Items}
use Rattle.serde_json.specs.Written.{compact_text}
use Rattle.ov_specs.specs.locks.Queues.{LockCall, owns, call_refusal, after_call, call_result, told_of_call}
use Rattle.ov_specs.specs.monitors.Monitors.{Monitor}
use Rattle.ov_specs.specs.rows.Database.{Database, same_database}
use Rattle.ov_specs.specs.wire.Frame.{frame, reply_tree, failure_tree}
use Rattle.ov_specs.specs.machine.History.{frames_to}
use Rattle.ov_specs.specs.machine.Machine as machine
use Rattle.ov_specs.specs.machine.Machine.{State, Sent, Work, Answers, Transact, Cancels, Locks, Watches, works, does, completes, told, to_session, results_to, updates_sent, unless_refused}
use Rattle.ov_specs.specs.operations.Draws.{draws_wanted}
use Rattle.ov_specs.specs.operations.Transaction.{TransactionOutcome, Completes, Waits, transaction, exhausted_results, failed_results}
use Rattle.ov_specs.specs.values.Uuid.{Uuid}
use Rattle.ov_db.specs.Committing.{Commits}
use Rattle.ov_stored.specs.Changing.{Delta, applied}
use Rattle.ov_db.specs.KeptDatabase.{KeptDatabase}
use Rattle.ov_db.specs.declared.answer.StoreAnswer.{StoreAnswer}
use Rattle.ov_db.specs.declared.answer.StoreAnswer.TheVariants as store
use Rattle.ov_outbox.specs.Frames.{WaitingFrames, waiting_for, PostsSent, HasSameFrames}
use Rattle.ov_outbox.specs.Outbox.{Outbox}
use Rattle.ov_watch.specs.Watching.{Watching, monitors_at, WatchesWith, SameWatching}
use Rattle.ov_txn.specs.Attempting.{IsUnstoredAnswer, HasCause}
use Rattle.ov_txn.specs.declared.tried.Tried.TheVariants.{Stored}
use Rattle.ov_requests.specs.Asked.{IsWork, IsWithoutDraws}
use Rattle.ov_requests.specs.declared.answer.Work as code
use Rattle.ov_requests.specs.declared.answer.Work.TheVariants as kinds
use Rattle.ov_live.specs.declared.attempt.Trial.TheVariants.{Done}
use Rattle.ov_history.specs.declared.event.Outcome.{Outcome}
use Rattle.ov_history.specs.declared.event.Outcome.TheVariants as outcome
use Rattle.ov_live.specs.declared.live.Live.{Live}
use Rattle.ov_history.specs.Entries.{listed_of}
use Rattle.ov_live.specs.Preparing.{outcome_after}
use Rattle.ov_live.specs.Asking.{AsksStore}
use Rattle.ov_live.specs.Handling.{PostsIfRoom, with_db, TrialRequest, TrialState, IsCompleted, IsTrial, Stays, WorkIsDone, WorksWith, work_at, HasSameRest, WaitsIfRoom, CancelsIfRoom}
use Rattle.ov_live.specs.States.{machine_state, machine_sessions}
use Rattle.ov_live.proofs.Watching.{sessions-same, sessions-watch}

-- nothing is sent if the same frames wait
pub posts_none : (old new : WaitingFrames) → HasSameFrames old new → PostsSent [] old new
posts_none old new same other = same other ∙ sym (append-nil (waiting_for other old))

-- ---- a try

-- what a try is asked
abbrev pub request : List machine.Session → ℕ → Data → TransactionOutcome → TrialRequest
request sessions session id on = record { sessions = sessions; session = session; id = id; outcome = on }

-- what it may change
abbrev pub trial_state : {K : Type 0} → KeptDatabase K → WaitingFrames → TrialState K
trial_state database frames = record { database = database; frames = frames }

-- a transaction for which the store is not asked
module _ {K : Type 0} (ms : List machine.Session) (n : ℕ) (id : Data) (made : Items) (database : Database) (sent : List Sent) (old : KeptDatabase K) (waited waits : WaitingFrames) where
  at_once : (o : Option Outcome) → ((s : State) → completes (with_db s old) n id made database None ≡ Some (record { state = with_db s old; sent = sent })) → PostsIfRoom sent waited o waits
      → IsTrial (request ms n id (Completes made database)) (trial_state old waited) (Done o) (trial_state old waits)
  at_once None h posts = record { results = made; database = database; is = refl; sent = sent; comes = λ s is. h s; posts = posts }
  at_once (Some outcome.NoMemory) h silent = (refl, silent)
  at_once (Some outcome.Committed) h never = absurd never
  at_once (Some outcome.Exhausted) h never = absurd never
  at_once (Some outcome.Failed) h never = absurd never

pub answers : {K : Type 0} (ms : List machine.Session) (n : ℕ) (id : Data) (on : TransactionOutcome) (results : Items) (old : KeptDatabase K) (o : Option Outcome) (waited waits : WaitingFrames)
    → IsUnstoredAnswer on old results → PostsIfRoom (results_to n id results) waited o waits → IsTrial (request ms n id on) (trial_state old waited) (Done o) (trial_state old waits)
answers ms n id (Completes made database) results old o waited waits (inl (same, made_is)) posts = at_once ms n id made database (results_to n id results) old waited waits o (λ s. rw (same, made_is) refl) posts
answers ms n id (Completes made database) results old o waited waits (inr (other, sealed, made_is)) posts = at_once ms n id made database (results_to n id results) old waited waits o (λ s. rw (other, sealed, made_is) refl) posts
answers ms n id (Waits timeout) results old o waited waits never posts = absurd never

-- the same frames wait as before
pub posts_from : (sent : List Sent) (waited between : WaitingFrames) (o : Option Outcome) (waits : WaitingFrames) → HasSameFrames waited between → PostsIfRoom sent between o waits → PostsIfRoom sent waited o waits
posts_from sent waited between None waits same posts = λ s. posts s ∙ ap (λ (fs : List (List ℕ)). fs ++ frames_to s sent) (same s)
posts_from sent waited between (Some outcome.NoMemory) waits same silent = λ s. silent s ∙ same s
posts_from sent waited between (Some outcome.Committed) waits same never = absurd never
posts_from sent waited between (Some outcome.Exhausted) waits same never = absurd never
posts_from sent waited between (Some outcome.Failed) waits same never = absurd never

-- what is sent by the store's answer
abbrev pub sent_after : {K : Type 0} → StoreAnswer → List machine.Session → ℕ → Data → Items → KeptDatabase K → Delta → List Sent
sent_after store.Kept ms n id results old delta = updates_sent old.committed (applied delta old.committed) ms ++ results_to n id results
sent_after store.Exhausted ms n id results old delta = results_to n id (exhausted_results results)
sent_after store.Failed ms n id results old delta = results_to n id (failed_results results)

-- a transaction whose changes the store was asked to keep
module _ {K : Type 0} (ms : List machine.Session) (n : ℕ) (id : Data) (on : TransactionOutcome) (results : Items) (old new : KeptDatabase K) (delta : Delta) (waited waits : WaitingFrames)
    (is : on ≡ Completes results (applied delta old.committed)) (other : same_database old.committed (applied delta old.committed) ≡ false) (unsealed : old.sealed ≡ None) where
  completed : (o : Option Outcome) (sent : List Sent) → ((s : State) → s.sessions ≡ ms → completes (with_db s old) n id results (applied delta old.committed) (listed_of o) ≡ Some (record { state = with_db s new; sent = sent })) → PostsSent sent waited waits
      → IsCompleted (request ms n id on) (trial_state old waited) o (trial_state new waits)
  completed o sent comes posts = record { results = results; database = applied delta old.committed; is = is; sent = sent; comes = comes; posts = posts }

  pub stored : (answer : StoreAnswer) → Commits delta old answer new → PostsSent (sent_after answer ms n id results old delta) waited waits
      → IsTrial (request ms n id on) (trial_state old waited) (Done (Some (outcome_after answer))) (trial_state new waits)
  stored store.Kept made posts =
      let schema : new.schema ≡ old.schema = ap (λ (k : KeptDatabase K). k.schema) made in
      let database : new.committed ≡ applied delta old.committed = ap (λ (k : KeptDatabase K). k.committed) made in
      let sealed : new.sealed ≡ None = ap (λ (k : KeptDatabase K). k.sealed) made ∙ unsealed in
      completed (Some outcome.Committed) (sent_after store.Kept ms n id results old delta) (λ s sessions. rw (other, unsealed, schema, database, sealed, ← sessions) refl) posts
  stored store.Exhausted made posts =
      let schema : new.schema ≡ old.schema = ap (λ (k : KeptDatabase K). k.schema) made in
      let database : new.committed ≡ old.committed = ap (λ (k : KeptDatabase K). k.committed) made in
      let sealed : new.sealed ≡ None = ap (λ (k : KeptDatabase K). k.sealed) made ∙ unsealed in
      completed (Some outcome.Exhausted) (sent_after store.Exhausted ms n id results old delta) (λ s sessions. rw (other, unsealed, schema, database, sealed) refl) posts
  stored store.Failed made posts =
      let schema : new.schema ≡ old.schema = ap (λ (k : KeptDatabase K). k.schema) made in
      let database : new.committed ≡ old.committed = ap (λ (k : KeptDatabase K). k.committed) made in
      let sealed : new.sealed ≡ Some (applied delta old.committed) = ap (λ (k : KeptDatabase K). k.sealed) made in
      completed (Some outcome.Failed) (sent_after store.Failed ms n id results old delta) (λ s sessions. rw (other, unsealed, schema, database, sealed) refl) posts

-- what the store's answer leaves of the database
pub asks_stored : {K : Type 0} (failed : K → ℕ) (delta : Delta) (old new : KeptDatabase K) (answer : StoreAnswer) → HasCause failed (Stored answer) old new → Commits delta old answer new → AsksStore failed (Some (outcome_after answer)) old new
asks_stored {K} failed delta old new store.Kept cause made = ap (λ (k : KeptDatabase K). k.sealed) made
asks_stored {K} failed delta old new store.Exhausted cause made = ap (λ (k : KeptDatabase K). k.sealed) made
asks_stored failed delta old new store.Failed cause made = cause

-- ---- work

-- the live state is the same
stays_same : {K : Type 0} (n : ℕ) (old : Live K) → Stays n old old
stays_same n old = record { same = refl; watching = λ other apart. refl; queues = refl; frames = λ other. refl }

-- out of memory before anything was drawn
pub nothing_drawn : {K : Type 0} (m n : ℕ) (w : Work) (old : Live K) (draws : List Uuid) → draws ≡ [] → WorksWith (work_at m n w draws) old (Some outcome.NoMemory) old
nothing_drawn m n w old draws none = (omega (arith, ap (λ (d : List Uuid). length d) none), stays_same n old)

-- a transaction that was tried, and these identifiers drawn for it
module _ {K : Type 0} (m n : ℕ) (id : Data) (draws : List Uuid) (operations : Items) (old : Live K) (many : length draws ≡ draws_wanted operations) where
  abbrev on : TransactionOutcome
  on = transaction old.database.schema old.database.committed (owns old.outbox.queues n) draws 0 operations

  module _ (db : KeptDatabase K) (outbox : Outbox) (tries : ℕ) (queues : outbox.queues ≡ old.outbox.queues) where
    abbrev new : Live K
    new = record old { database = db; outbox = outbox; tries = tries }

    same_queues : with_db (machine_state old m) db ≡ machine_state new m
    same_queues = rw queues refl

    over : {o : Option Outcome} (c : IsCompleted (request (machine_sessions old.watchers old.sessions.open_sessions) n id on) (trial_state old.database old.outbox.frames) o (trial_state db outbox.frames))
        → machine.when (eqb (length draws) (draws_wanted operations)) (does (machine_state old m) n draws (listed_of o) (Transact id operations)) ≡ Some (record { state = with_db (machine_state old m) db; sent = c.sent })
    over {o} c = rw (eq-eqb (length draws) (draws_wanted operations) many, c.is) (c.comes (machine_state old m) refl)

    tried_work : (o : Option Outcome)
        → works (machine_state old m) n draws (listed_of o) (Transact id operations) ≡ machine.when (eqb (length draws) (draws_wanted operations)) (does (machine_state old m) n draws (listed_of o) (Transact id operations))
        → IsCompleted (request (machine_sessions old.watchers old.sessions.open_sessions) n id on) (trial_state old.database old.outbox.frames) o (trial_state db outbox.frames)
        → WorkIsDone (work_at m n (Transact id operations) draws) old o new
    tried_work o is c = record {
      sent = c.sent;
      works = is ∙ (over c ∙ ap (λ (s : State). Some (record { state = s; sent = c.sent })) same_queues);
      posts = c.posts;
      sessions = refl;
      untried = refl;
      kept = λ h. refl;
    }

    pub trial_works : (o : Option Outcome) → IsTrial (request (machine_sessions old.watchers old.sessions.open_sessions) n id on) (trial_state old.database old.outbox.frames) (Done o) (trial_state db outbox.frames) → WorksWith (work_at m n (Transact id operations) draws) old o new
    trial_works (Some outcome.NoMemory) (same, silent) = (
      omega (arith, many),
      record {
        same = ap (λ (k : KeptDatabase K). record old { database = k; outbox = outbox; tries = tries }) same;
        watching = λ other apart. refl;
        queues = queues;
        frames = silent;
      },
    )
    trial_works None c = tried_work None refl c
    trial_works (Some outcome.Committed) c = tried_work (Some outcome.Committed) refl c
    trial_works (Some outcome.Exhausted) c = tried_work (Some outcome.Exhausted) refl c
    trial_works (Some outcome.Failed) c = tried_work (Some outcome.Failed) refl c

  -- one that is blocked, which leaves the waiting frames as they are
  pub wait_works : (outbox : Outbox) (tries : ℕ) (timeout : Option ℕ) (o : Option Outcome) (new : Live K) → outbox.queues ≡ old.outbox.queues → HasSameFrames old.outbox.frames outbox.frames → on ≡ Waits timeout
      → WaitsIfRoom (machine.arrived (machine_state old m) n id draws operations) timeout (record old { outbox = outbox; tries = tries }) o new → WorksWith (work_at m n (Transact id operations) draws) old o new
  wait_works outbox tries timeout None new queues silent is waits = rw waits (record {
    sent = [];
    works = rw (eq-eqb (length draws) (draws_wanted operations) many, is, queues) refl;
    posts = posts_none old.outbox.frames outbox.frames silent;
    sessions = refl;
    untried = refl;
    kept = λ h. cc;
  })
  wait_works outbox tries timeout (Some outcome.NoMemory) new queues silent is same = (omega (arith, many), rw same (record { same = refl; watching = λ other apart. refl; queues = queues; frames = silent }))
  wait_works outbox tries timeout (Some outcome.Committed) new queues silent is never = absurd never
  wait_works outbox tries timeout (Some outcome.Exhausted) new queues silent is never = absurd never
  wait_works outbox tries timeout (Some outcome.Failed) new queues silent is never = absurd never

-- a waiting transaction is canceled
pub cancel_works : {K : Type 0} (m n : ℕ) (id : Data) (text : List ℕ) (old : Live K) (o : Option Outcome) (new : Live K) → text ≡ compact_text id → CancelsIfRoom n id text old o new
    → WorksWith (work_at m n (Cancels id) []) old o new
cancel_works m n id text old None new same (posts, queues, is) = record {
  sent = to_session n (failure_tree id (codes "canceled") ∷ []);
  works = rw (is, queues, same) refl;
  posts = posts;
  sessions = ap (λ (l : Live _). l.sessions) is;
  untried = ap (λ (l : Live _). l.waiting.untried) is;
  kept = λ h. cc;
}
cancel_works m n id text old (Some outcome.NoMemory) new same (silent, queues, is) =
    (omega arith, record { same = is ∙ rw is refl; watching = λ other apart. ap (λ (l : Live _). monitors_at other l.watchers) is; queues = queues; frames = silent })
cancel_works m n id text old (Some outcome.Committed) new same never = absurd never
cancel_works m n id text old (Some outcome.Exhausted) new same never = absurd never
cancel_works m n id text old (Some outcome.Failed) new same never = absurd never

-- its answer was sent, or an allocation failed
pub cancel_refused : {K : Type 0} (n : ℕ) (id : Data) (text : List ℕ) (sent : List Sent) (old : Live K) (o : Option Outcome) (outbox : Outbox) → is_some o ≡ true → outbox.queues ≡ old.outbox.queues → PostsIfRoom sent old.outbox.frames o outbox.frames
    → CancelsIfRoom n id text old o (record old { outbox = outbox })
cancel_refused n id text sent old None outbox h queues posts = cc
cancel_refused n id text sent old (Some outcome.NoMemory) outbox h queues silent = (silent, queues, refl)
cancel_refused n id text sent old (Some outcome.Committed) outbox h queues never = absurd never
cancel_refused n id text sent old (Some outcome.Exhausted) outbox h queues never = absurd never
cancel_refused n id text sent old (Some outcome.Failed) outbox h queues never = absurd never

pub posted : (sent : List Sent) (old new : WaitingFrames) (o : Option Outcome) → is_some o ≡ false → PostsIfRoom sent old o new → PostsSent sent old new
posted sent old new None h posts = posts
posted sent old new (Some o) h posts = cc

-- ---- what the parts leave

-- nothing but the outcomes of work at once
unasked_by : (sent : List Sent) (old new : WaitingFrames) (o : Option Outcome) → PostsIfRoom sent old o new → (o ≡ None) ⊎ (o ≡ Some outcome.NoMemory)
unasked_by sent old new None posts = inl refl
unasked_by sent old new (Some outcome.NoMemory) posts = inr refl
unasked_by sent old new (Some outcome.Committed) never = absurd never
unasked_by sent old new (Some outcome.Exhausted) never = absurd never
unasked_by sent old new (Some outcome.Failed) never = absurd never

-- if something was posted, or an allocation failed
pub rest_posted : {K : Type 0} (sent : List Sent) (old : Live K) (o : Option Outcome) (new : Live K) (waited waits : WaitingFrames) → PostsIfRoom sent waited o waits → new.database ≡ old.database → new.tries ≡ old.tries → HasSameRest old o new
rest_posted sent old o new waited waits posts database tries = record { database = database; tries = tries; unasked = unasked_by sent waited waits o posts }

pub cancel_rest : {K : Type 0} (n : ℕ) (id : Data) (text : List ℕ) (old : Live K) (o : Option Outcome) (new : Live K) → CancelsIfRoom n id text old o new → HasSameRest old o new
cancel_rest {K} n id text old None new (posts, queues, is) = record { database = ap (λ (l : Live K). l.database) is; tries = ap (λ (l : Live K). l.tries) is; unasked = inl refl }
cancel_rest {K} n id text old (Some outcome.NoMemory) new (silent, queues, is) = record { database = ap (λ (l : Live K). l.database) is; tries = ap (λ (l : Live K). l.tries) is; unasked = inr refl }
cancel_rest n id text old (Some outcome.Committed) new never = absurd never
cancel_rest n id text old (Some outcome.Exhausted) new never = absurd never
cancel_rest n id text old (Some outcome.Failed) new never = absurd never

-- for such the store was not asked
pub rest_asks : {K : Type 0} (failed : K → ℕ) (old : Live K) (o : Option Outcome) (new : Live K) → HasSameRest old o new → AsksStore failed o old.database new.database
rest_asks failed old o new rest = by rest.unasked
  where
    by : (o ≡ None) ⊎ (o ≡ Some outcome.NoMemory) → AsksStore failed o old.database new.database
    by (inl none) = rw none rest.database
    by (inr none) = rw none rest.database

pub wait_asks : {K : Type 0} (failed : K → ℕ) (w : machine.Outstanding) (timeout : Option ℕ) (old : Live K) (o : Option Outcome) (new : Live K) → WaitsIfRoom w timeout old o new → AsksStore failed o old.database new.database
wait_asks {K} failed w timeout old None new is = ap (λ (l : Live K). l.database) is
wait_asks {K} failed w timeout old (Some outcome.NoMemory) new is = ap (λ (l : Live K). l.database) is
wait_asks failed w timeout old (Some outcome.Committed) new never = absurd never
wait_asks failed w timeout old (Some outcome.Exhausted) new never = absurd never
wait_asks failed w timeout old (Some outcome.Failed) new never = absurd never

pub wait_rest : {K : Type 0} (w : machine.Outstanding) (timeout : Option ℕ) (old : Live K) (o : Option Outcome) (new : Live K) → WaitsIfRoom w timeout old o new → (new.database ≡ old.database) × (new.tries ≡ old.tries)
wait_rest {K} w timeout old None new is = (ap (λ (l : Live K). l.database) is, ap (λ (l : Live K). l.tries) is)
wait_rest {K} w timeout old (Some outcome.NoMemory) new is = (ap (λ (l : Live K). l.database) is, ap (λ (l : Live K). l.tries) is)
wait_rest w timeout old (Some outcome.Committed) new never = absurd never
wait_rest w timeout old (Some outcome.Exhausted) new never = absurd never
wait_rest w timeout old (Some outcome.Failed) new never = absurd never

-- ---- work at once

-- the trees of an answer
pub answer_of : (s : State) (n : ℕ) (asked : Work) (bytes : Option (List ℕ)) → IsWork s n asked (kinds.Answer bytes) → (trees : List Data) × (asked ≡ Answers trees) × (map frame trees ≡ option_to_list bytes)
answer_of s n (Answers trees) bytes is = (trees, refl, is)
answer_of s n (Transact id operations) bytes is = absurd is
answer_of s n (Cancels id) bytes is = absurd is
answer_of s n (Locks call id name) bytes is = absurd is
answer_of s n (Watches id result monitors) bytes is = absurd is

-- the work that is answered at once
pub answered_works : {K : Type 0} (m n : ℕ) (trees : List Data) (old : Live K) (o : Option Outcome) (new : Live K) → new ≡ record old { outbox = new.outbox } → new.outbox.queues ≡ old.outbox.queues → PostsIfRoom (to_session n trees) old.outbox.frames o new.outbox.frames
    → WorksWith (work_at m n (Answers trees) []) old o new
answered_works {K} m n trees old None new is queues posts = record {
  sent = to_session n trees;
  works = rw (is, queues) refl;
  posts = posts;
  sessions = ap (λ (l : Live K). l.sessions) is;
  untried = ap (λ (l : Live K). l.waiting.untried) is;
  kept = λ h. cc;
}
answered_works {K} m n trees old (Some outcome.NoMemory) new is queues silent =
    (omega arith, record { same = is ∙ rw is refl; watching = λ other apart. ap (λ (l : Live K). monitors_at other l.watchers) is; queues = queues; frames = silent })
answered_works m n trees old (Some outcome.Committed) new is queues never = absurd never
answered_works m n trees old (Some outcome.Exhausted) new is queues never = absurd never
answered_works m n trees old (Some outcome.Failed) new is queues never = absurd never

-- what was tried and refused, so that all is as before
pub record SameLive {K : Type 0} (old new : Live K) : Type 0 where
  pub same : new ≡ record old { watchers = new.watchers; outbox = new.outbox }
  pub watching : SameWatching old.watchers new.watchers
  pub queues : new.outbox.queues ≡ old.outbox.queues
  pub frames : HasSameFrames old.outbox.frames new.outbox.frames

same_state : {K : Type 0} (m : ℕ) (old mid : Live K) → SameLive old mid → machine_state mid m ≡ machine_state old m
same_state m old mid same = rw (same.same, same.queues, sessions-same old.watchers mid.watchers same.watching old.sessions.open_sessions) refl

-- work that is done then is done from before
done_over : {K : Type 0} (m n : ℕ) (w : Work) (draws : List Uuid) (old mid : Live K) (o : Option Outcome) (new : Live K) → SameLive old mid → WorkIsDone (work_at m n w draws) mid o new → WorkIsDone (work_at m n w draws) old o new
done_over {K} m n w draws old mid o new same done = record {
  sent = done.sent;
  works = ap (λ (s : State). works s n draws (listed_of o) w) (sym (same_state m old mid same)) ∙ done.works;
  posts = λ s. done.posts s ∙ ap (λ (fs : List (List ℕ)). fs ++ frames_to s done.sent) (same.frames s);
  sessions = done.sessions ∙ ap (λ (l : Live K). l.sessions) same.same;
  untried = done.untried ∙ ap (λ (l : Live K). l.waiting.untried) same.same;
  kept = λ h. done.kept h ∙ ap (λ (l : Live K). l.waiting) same.same;
}

pub works_over : {K : Type 0} (m n : ℕ) (w : Work) (draws : List Uuid) (old mid : Live K) (o : Option Outcome) (new : Live K) → SameLive old mid → WorksWith (work_at m n w draws) mid o new → WorksWith (work_at m n w draws) old o new
works_over m n w draws old mid None new same done = done_over m n w draws old mid None new same done
works_over {K} m n w draws old mid (Some outcome.NoMemory) new same (few, stays) = (
  few,
  record {
    same = stays.same ∙ ap (λ (l : Live K). record l { watchers = new.watchers; outbox = new.outbox; tries = new.tries }) same.same;
    watching = λ other apart. stays.watching other apart ∙ same.watching other;
    queues = stays.queues ∙ same.queues;
    frames = λ other. stays.frames other ∙ same.frames other;
  },
)
works_over m n w draws old mid (Some outcome.Committed) new same done = done_over m n w draws old mid (Some outcome.Committed) new same done
works_over m n w draws old mid (Some outcome.Exhausted) new same done = done_over m n w draws old mid (Some outcome.Exhausted) new same done
works_over m n w draws old mid (Some outcome.Failed) new same done = done_over m n w draws old mid (Some outcome.Failed) new same done

-- an allocation failed, and all is as before
pub same_works : {K : Type 0} (m n : ℕ) (w : Work) (old new : Live K) → SameLive old new → WorksWith (work_at m n w []) old (Some outcome.NoMemory) new
same_works {K} m n w old new same = (
  omega arith,
  record {
    same = same.same ∙ rw same.same refl;
    watching = λ other apart. same.watching other;
    queues = same.queues;
    frames = same.frames;
  },
)

-- what is asked of a lock, if it is not refused
pub lock_works : {K : Type 0} (m n : ℕ) (call : LockCall) (id : Data) (name : List ℕ) (old : Live K) (outbox : Outbox) → call_refusal call name n old.outbox.queues ≡ None → outbox.queues ≡ after_call call name n old.outbox.queues
    → PostsSent (to_session n (reply_tree id (call_result call name old.outbox.queues) ∷ []) ++ told (option_to_list (told_of_call call name n old.outbox.queues))) old.outbox.frames outbox.frames
    → WorksWith (work_at m n (unless_refused id (call_refusal call name n old.outbox.queues) (Locks call id name)) []) old None (record old { outbox = outbox })
lock_works m n call id name old outbox free queues posts = rw free (record {
  sent = to_session n (reply_tree id (call_result call name old.outbox.queues) ∷ []) ++ told (option_to_list (told_of_call call name n old.outbox.queues));
  works = rw queues refl;
  posts = posts;
  sessions = refl;
  untried = refl;
  kept = λ h. refl;
})

-- the session has these monitors afterwards, and is answered; or an allocation failed
pub watch_works : {K : Type 0} (m n : ℕ) (id result : Data) (monitors : List Monitor) (old : Live K) (watchers : Watching) (o : Option Outcome) (new : Live K) → WatchesWith n monitors old.watchers watchers
    → new ≡ record old { watchers = watchers; outbox = new.outbox } → new.outbox.queues ≡ old.outbox.queues → PostsIfRoom (to_session n (reply_tree id result ∷ [])) old.outbox.frames o new.outbox.frames
    → WorksWith (work_at m n (Watches id result monitors) []) old o new
watch_works {K} m n id result monitors old watchers None new watches is queues posts = record {
  sent = to_session n (reply_tree id result ∷ []);
  works = rw (is, queues, sessions-watch n monitors old.watchers watchers watches old.sessions.open_sessions) refl;
  posts = posts;
  sessions = ap (λ (l : Live K). l.sessions) is;
  untried = ap (λ (l : Live K). l.waiting.untried) is;
  kept = λ h. cc;
}
watch_works {K} m n id result monitors old watchers (Some outcome.NoMemory) new watches is queues silent = (
  omega arith,
  record {
    same = is ∙ rw is refl;
    watching = λ other apart. ap (λ (l : Live K). monitors_at other l.watchers) is ∙ (watches other ∙ ap (λ b. cond b monitors (monitors_at other old.watchers)) apart);
    queues = queues;
    frames = silent;
  },
)
watch_works m n id result monitors old watchers (Some outcome.Committed) new watches is queues never = absurd never
watch_works m n id result monitors old watchers (Some outcome.Exhausted) new watches is queues never = absurd never
watch_works m n id result monitors old watchers (Some outcome.Failed) new watches is queues never = absurd never

-- all work but a transaction
pub without_draws : (work : code.Work) → ((id : Data) (operations : Items) → work ≢ kinds.Transact id operations) → IsWithoutDraws work
without_draws (kinds.Answer frame) other = tt
without_draws (kinds.Transact id operations) other = absurd (other id operations refl)
without_draws (kinds.Cancel id text) other = tt
without_draws (kinds.Lock call id name) other = tt
without_draws (kinds.Monitor id name requests) other = tt
without_draws (kinds.CancelMonitor id name) other = tt
