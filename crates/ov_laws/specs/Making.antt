-- Which attempts of a history make its databases, and which replies tell of them (RFC 7047, 4.1.3).
use Rattle.std.specs.Prelude.{◌≡◌, ◌⊎◌, ℕ, ◌+◌, List, [], ◌∷◌, ◌++◌, length, Bool, true, false, not, Some}
use Rattle.serde_json.specs.Data.{Data, Items}
use Rattle.ov_specs.specs.machine.History.{run}
use Rattle.ov_specs.specs.machine.Machine.{State, Event, Open, Take, Close, Tick, Entry, Attempt, Outcome, Outstanding, Stepped, Work, Answers, Transact, Cancels, Locks, Watches, work_of, tried_in}
use Rattle.ov_specs.specs.operations.Transaction.{Completes, has_error}
use Rattle.ov_specs.specs.rows.Database.{Database, same_database}
use Rattle.ov_specs.specs.values.Uuid.{Uuid}
use Rattle.ov_specs.specs.wire.Message.{Message}
use Rattle.ov_laws.specs.Databases.{at_moment_of, commits_of, commits_in}
use Rattle.ov_laws.specs.Tries.{Trial, EventTries}

-- A transaction as it arrives: the session that asks for it, the id of its reply, the identifiers drawn for it, its operations,
-- and the moment.
pub record Arrival : Type 0 where
  pub session : ℕ
  pub id : Data
  pub draws : List Uuid
  pub operations : Items
  pub moment : ℕ

-- how a transaction that is tried arrived
abbrev pub arrival_of : Outstanding → Arrival
arrival_of o = record {
  session = o.session;
  id = o.id;
  draws = o.draws;
  operations = o.operations;
  moment = o.arrival;
}

-- An entry of the history takes a message that asks for the transaction, at its moment, and draws the identifiers for it.
pub record TakesTransaction
    (first : State) (history : List Entry) (arrival : Arrival) : Type 0 where
  pub earlier : List Entry
  pub entry : Entry
  pub later : List Entry
  pub stands : history ≡ earlier ++ entry ∷ later
  pub before : Stepped
  pub leads : run first earlier ≡ Some before
  pub message : Message
  pub takes : entry.event ≡ Take arrival.session message
  pub asks : work_of (at_moment_of entry before.state) arrival.session message
      ≡ Transact arrival.id arrival.operations
  pub drawn : entry.choice.draws ≡ arrival.draws
  pub arrives : entry.choice.moment ≡ arrival.moment

-- One of these entries took the transaction.
abbrev pub IsTaken : State → List Entry → Outstanding → Type 0
IsTaken first history o = TakesTransaction first history (arrival_of o)

-- An attempt of the history makes `after` of `before`, after n attempts that were kept, and the store answers it with this
-- outcome.
pub record Makes
    (first : State) (history : List Entry) (outcome : Outcome) (n : ℕ)
    (before after : Database) : Type 0 where
  -- the entry, and where it stands
  pub earlier : List Entry
  pub entry : Entry
  pub later : List Entry
  pub stands : history ≡ earlier ++ entry ∷ later
  pub mid : Stepped
  pub leads : run first earlier ≡ Some mid
  -- The attempt, the transaction that it tries, which this entry or an earlier one took, and the state of the machine then. The
  -- attempt is listed, and n were kept before it.
  pub trial : Trial
  pub tries : EventTries (at_moment_of entry mid.state) entry.choice entry.event trial
  pub taken : IsTaken first (earlier ++ entry ∷ []) trial.tried
  pub made : List Attempt
  pub listed : entry.choice.outcomes ≡ made ++ trial.left
  pub others : List Attempt
  pub answered : trial.left ≡ record { number = trial.number; outcome = outcome } ∷ others
  pub counted : length (commits_in earlier) + length (commits_of made) ≡ n
  -- what comes of it: no error, and another database
  pub database : trial.state.database ≡ before
  pub results : Items
  pub completes : tried_in first.schema trial.state trial.tried ≡ Completes results after
  pub succeeds : has_error results ≡ false
  pub changes : same_database before after ≡ false

-- A reply to a transaction: the session that it is for, its id, and its results.
pub record Reply : Type 0 where
  pub session : ℕ
  pub id : Data
  pub results : Items

-- The reply has the results of a transaction of its session and id, which an attempt of the entry tries; `s` is the state
-- before the entry. If n attempts of the entry were kept before it, it is tried on database n of these, counted from 0, and
-- leaves that as it was or makes the next one of it.
pub record RepliesTo
    (first : State) (earlier : List Entry) (s : State) (entry : Entry) (databases : List Database)
    (reply : Reply) : Type 0 where
  -- the attempt, the transaction that it tries, which this entry or an earlier one took, and the state of the machine then
  pub trial : Trial
  pub tries : EventTries (at_moment_of entry s) entry.choice entry.event trial
  pub taken : IsTaken first (earlier ++ entry ∷ []) trial.tried
  pub of_session : trial.tried.session ≡ reply.session
  pub of_id : trial.tried.id ≡ reply.id
  -- what is listed before it, and from it on
  pub made : List Attempt
  pub listed : entry.choice.outcomes ≡ made ++ trial.left
  -- what comes of it, and which database it is tried on
  pub after : Database
  pub completes : tried_in first.schema trial.state trial.tried ≡ Completes reply.results after
  pub former : List Database
  pub next : List Database
  pub counted : length former ≡ length (commits_of made)
  pub stands : databases ≡ former ++ trial.state.database ∷ next
  pub kept : (same_database trial.state.database after ≡ true)
      ⊎ ((more : List Database) × (next ≡ after ∷ more))

-- the work is to try a transaction
abbrev pub is_transaction : Work → Bool
is_transaction (Answers trees) = false
is_transaction (Transact id operations) = true
is_transaction (Cancels id) = false
is_transaction (Locks call id name) = false
is_transaction (Watches id result monitors) = false

-- the event takes a message that asks for no transaction
abbrev pub takes_another : State → Event → Bool
takes_another s Open = false
takes_another s (Take session message) = not (is_transaction (work_of s session message))
takes_another s (Close session cause) = false
takes_another s Tick = false
