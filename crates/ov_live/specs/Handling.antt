-- The results of the work on a message and of a try of a transaction: those of the machine.
use Rattle.std.specs.Prelude.{◌≡◌, ◌⊎◌, ◌==◌, ℕ, ◌<◌, ◌≤◌, List, [], ◌∷◌, ◌++◌, length, filter, not, codes, true, false, Option, Some, None}
use Rattle.serde_json.specs.Data.{Data, Items}
use Rattle.ov_specs.specs.wire.Frame.{failure_tree}
use Rattle.ov_specs.specs.wire.Message.{Message}
use Rattle.ov_specs.specs.machine.Machine as machine
use Rattle.ov_specs.specs.machine.Machine.{State, Session, Sent, Work, Transact, work_of, works, draws_for, completes, to_session}
use Rattle.ov_specs.specs.operations.Transaction.{TransactionOutcome, Completes, Waits}
use Rattle.ov_specs.specs.rows.Database.{Database}
use Rattle.ov_specs.specs.values.Uuid.{Uuid}
use Rattle.ov_db.specs.KeptDatabase.{KeptDatabase}
use Rattle.ov_outbox.specs.Frames.{WaitingFrames, PostsSent, HasSameFrames}
use Rattle.ov_outbox.specs.Outbox.{Outbox}
use Rattle.ov_requests.specs.Waiting.{many, most_outstanding, has_text}
use Rattle.ov_watch.specs.Watching.{monitors_at}
use Rattle.ov_history.specs.Entries.{listed_of}
use Rattle.ov_live.specs.States.{machine_state}
use Rattle.ov_live.specs.declared.attempt.Trial.{Trial}
use Rattle.ov_live.specs.declared.attempt.Trial.TheVariants.{Done, Blocked}
use Rattle.ov_history.specs.declared.event.Outcome.{Outcome}
use Rattle.ov_history.specs.declared.event.Outcome.TheVariants as outcome
use Rattle.ov_live.specs.declared.handle.Handled.{Handled}
use Rattle.ov_live.specs.declared.live.Live.{Live}

-- ---- waiting frames

-- These are sent, or an allocation failed and the same frames wait.
abbrev pub PostsIfRoom : List Sent → WaitingFrames → Option Outcome → WaitingFrames → Type 0
PostsIfRoom sent old None new = PostsSent sent old new
PostsIfRoom sent old (Some outcome.NoMemory) new = HasSameFrames old new
PostsIfRoom sent old (Some outcome.Committed) new = ⊥
PostsIfRoom sent old (Some outcome.Exhausted) new = ⊥
PostsIfRoom sent old (Some outcome.Failed) new = ⊥

-- ---- a try

-- the state with this database
abbrev pub with_db : {K : Type 0} → State → KeptDatabase K → State
with_db s kept = record s { schema = kept.schema; database = kept.committed; sealed = kept.sealed }

-- the transaction that is tried: the open sessions with their monitors, its own session, the id to reply under, and its outcome
-- on the database
pub record TrialRequest : Type 0 where
  pub sessions : List Session
  pub session : ℕ
  pub id : Data
  pub outcome : TransactionOutcome

-- what a try may change: the database, and the waiting frames
pub record TrialState (K : Type 0) : Type 0 where
  pub database : KeptDatabase K
  pub frames : WaitingFrames

-- The transaction completes: in every state over the database with these sessions, the machine reaches the state over the
-- database as it is now, and what it sends waits after the frames that waited.
pub record IsCompleted {K : Type 0} (asked : TrialRequest) (old : TrialState K) (o : Option Outcome)
    (new : TrialState K) : Type 0 where
  pub results : Items
  pub database : Database
  pub is : asked.outcome ≡ Completes results database
  pub sent : List Sent
  pub comes : (s : State) → s.sessions ≡ asked.sessions
      → completes (with_db s old.database) asked.session asked.id results database (listed_of o)
      ≡ Some (record { state = with_db s new.database; sent = sent })
  pub posts : PostsSent sent old.frames new.frames

-- A try of a transaction: it completes; or it is blocked, or an allocation failed, and nothing is changed.
abbrev pub IsTrial : {K : Type 0} → TrialRequest → TrialState K → Trial → TrialState K → Type 0
IsTrial asked old (Done (Some outcome.NoMemory)) new = (new.database ≡ old.database) × HasSameFrames old.frames new.frames
IsTrial asked old (Done o) new = IsCompleted asked old o new
IsTrial asked old (Blocked timeout) new =
    (asked.outcome ≡ Waits timeout) × (new.database ≡ old.database) × HasSameFrames old.frames new.frames

-- what is listed of the try
abbrev pub outcome_in : Trial → Option Outcome
outcome_in (Done o) = o
outcome_in (Blocked timeout) = None

-- ---- the work on a message

-- if the message asks for a transaction, there is room for it to wait
abbrev pub HasRoomToWait : {K : Type 0} → ℕ → ℕ → Message → Live K → Type 0
HasRoomToWait moment session message live =
    (id : Data) (operations : Items) → work_of (machine_state live moment) session message ≡ Transact id operations
    → many live.waiting < most_outstanding

-- Nothing is changed but the count of attempts and what this session watches, and the same frames wait.
pub record Stays {K : Type 0} (session : ℕ) (old new : Live K) : Type 0 where
  pub same : new ≡ record old { watchers = new.watchers; outbox = new.outbox; tries = new.tries }
  pub watching : (other : ℕ) → (other == session) ≡ false → monitors_at other new.watchers ≡ monitors_at other old.watchers
  pub queues : new.outbox.queues ≡ old.outbox.queues
  pub frames : HasSameFrames old.outbox.frames new.outbox.frames

-- what a message of a session asks for, at the moment, and the identifiers that were drawn for it
pub record WorkRequest : Type 0 where
  pub moment : ℕ
  pub session : ℕ
  pub work : Work
  pub draws : List Uuid

-- the work at the moment, for the session, with these identifiers drawn
abbrev pub work_at : ℕ → ℕ → Work → List Uuid → WorkRequest
work_at moment session work draws = record { moment = moment; session = session; work = work; draws = draws }

-- The work was done as the machine does it, and what it sends waits after the frames that waited. If the store kept a change,
-- the same transactions wait.
pub record WorkIsDone {K : Type 0} (asked : WorkRequest) (old : Live K) (o : Option Outcome) (new : Live K) : Type 0 where
  pub sent : List Sent
  pub works : works (machine_state old asked.moment) asked.session asked.draws (listed_of o) asked.work
      ≡ Some (record { state = machine_state new asked.moment; sent = sent })
  pub posts : PostsSent sent old.outbox.frames new.outbox.frames
  pub sessions : new.sessions ≡ old.sessions
  pub untried : new.waiting.untried ≡ old.waiting.untried
  pub kept : machine.is_kept (listed_of o) ≡ true → new.waiting ≡ old.waiting

-- The work was done; or an allocation failed, no more was drawn than the work needs, and nothing is changed but what `Stays`
-- allows.
abbrev pub WorksWith : {K : Type 0} → WorkRequest → Live K → Option Outcome → Live K → Type 0
WorksWith asked old (Some outcome.NoMemory) new = (length asked.draws ≤ draws_for asked.work) × Stays asked.session old new
WorksWith asked old o new = WorkIsDone asked old o new

-- the same for the result of the code
abbrev pub Works : {K : Type 0} → ℕ → ℕ → Work → Live K → Handled → Live K → Type 0
Works moment session work old handled new = WorksWith (work_at moment session work handled.draws.items) old handled.outcome new

-- ---- parts of the work

-- the store was not asked
abbrev pub IsUnasked : Option Outcome → Type 0
IsUnasked o = (o ≡ None) ⊎ (o ≡ Some outcome.NoMemory)

-- the database and the count of attempts are as before, and the store was not asked
pub record HasSameRest {K : Type 0} (old : Live K) (o : Option Outcome) (new : Live K) : Type 0 where
  pub database : new.database ≡ old.database
  pub tries : new.tries ≡ old.tries
  pub unasked : IsUnasked o

-- Blocked on arrival, the transaction waits after the others with this timeout, or an allocation failed.
abbrev pub WaitsIfRoom : {K : Type 0} → machine.Outstanding → Option ℕ → Live K → Option Outcome → Live K → Type 0
WaitsIfRoom o timeout old None new =
    new ≡ record old {
      waiting = record old.waiting { outstanding = old.waiting.outstanding ++ record o { timeout = timeout } ∷ [] };
    }
WaitsIfRoom o timeout old (Some outcome.NoMemory) new = new ≡ old
WaitsIfRoom o timeout old (Some outcome.Committed) new = ⊥
WaitsIfRoom o timeout old (Some outcome.Exhausted) new = ⊥
WaitsIfRoom o timeout old (Some outcome.Failed) new = ⊥

-- the live state with this outbox, and without the transaction of the session whose id has this text
abbrev pub without_text : {K : Type 0} → ℕ → List ℕ → Outbox → Live K → Live K
without_text session text outbox live =
    record live {
      outbox = outbox;
      waiting = record live.waiting
          { outstanding = filter (λ o. not (has_text session text o)) live.waiting.outstanding };
    }

-- The transaction with this text is canceled: its answer is sent and it stops waiting, or an allocation failed.
abbrev pub CancelsIfRoom : {K : Type 0} → ℕ → Data → List ℕ → Live K → Option Outcome → Live K → Type 0
CancelsIfRoom session id text old None new =
    PostsSent (to_session session (failure_tree id (codes "canceled") ∷ [])) old.outbox.frames new.outbox.frames
    × (new.outbox.queues ≡ old.outbox.queues) × (new ≡ without_text session text new.outbox old)
CancelsIfRoom session id text old (Some outcome.NoMemory) new =
    HasSameFrames old.outbox.frames new.outbox.frames × (new.outbox.queues ≡ old.outbox.queues)
    × (new ≡ record old { outbox = new.outbox })
CancelsIfRoom session id text old (Some outcome.Committed) new = ⊥
CancelsIfRoom session id text old (Some outcome.Exhausted) new = ⊥
CancelsIfRoom session id text old (Some outcome.Failed) new = ⊥
