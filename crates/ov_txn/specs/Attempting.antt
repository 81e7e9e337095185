-- The result of an attempt of a transaction.
use Rattle.std.specs.Prelude.{◌≡◌, ◌⊎◌, ℕ, Bool, true, false, is_some, None}
use Rattle.serde_json.specs.Data.{Items}
use Rattle.ov_stored.specs.Changing.{Delta, applied}
use Rattle.ov_db.specs.Committing.{Commits}
use Rattle.ov_db.specs.KeptDatabase.{KeptDatabase}
use Rattle.ov_db.specs.declared.answer.StoreAnswer.TheVariants as store
use Rattle.ov_keeper.specs.Keeping.{HasFailed}
use Rattle.ov_specs.specs.operations.Transaction.{TransactionOutcome, Completes, Waits, failed_results}
use Rattle.ov_specs.specs.rows.Database.{same_database}
use Rattle.ov_txn.specs.Replying.{replies_with}
use Rattle.ov_txn.specs.declared.tried.Tried.{Tried}
use Rattle.ov_txn.specs.declared.tried.Tried.TheVariants.{Answer, Stored, Blocked, NoMemory}
use Rattle.ov_txn.specs.declared.ready.Replies.{Replies}

-- what makes ready, by its state before, the database, its changes, the replies, whether all is ready, and its state after
abbrev pub Readies : Type 0 → Type 0 → Type 1
Readies R K = R → KeptDatabase K → Delta → Replies → Bool → R → Type 0

-- The results if the store is not asked. If the transaction leaves the database as it was, they are its own; if it would
-- change a sealed database, the error of a failed commit follows them (RFC 7047, 4.1.3).
abbrev pub IsUnstoredAnswer : {K : Type 0} → TransactionOutcome → KeptDatabase K → Items → Type 0
IsUnstoredAnswer (Completes made database) old results =
    ((same_database old.committed database ≡ true) × (results ≡ made))
    ⊎ ((same_database old.committed database ≡ false) × (is_some old.sealed ≡ true) × (results ≡ failed_results made))
IsUnstoredAnswer (Waits timeout) old results = ⊥

-- what an attempt may change: the database, and what makes ready
pub record AttemptState (K R : Type 0) : Type 0 where
  pub database : KeptDatabase K
  pub ready : R

-- The transaction changes a database that is not sealed, and what follows its commit was made ready, with the changes and its
-- results, or could not be because an allocation failed.
pub record MadeReady {K R : Type 0} (readies : Readies R K) (outcome : TransactionOutcome) (old : AttemptState K R)
    (all : Bool) (ready : R) : Type 0 where
  pub results : Items
  pub delta : Delta
  pub completes : outcome ≡ Completes results (applied delta old.database.committed)
  pub changes : same_database old.database.committed (applied delta old.database.committed) ≡ false
  pub unsealed : old.database.sealed ≡ None
  pub made : readies old.ready old.database delta (replies_with results) all ready

-- The result of an attempt. If the transaction changes a database that is not sealed, all is made ready, and the database is
-- as a commit of its changes leaves it; otherwise nothing is changed. If an allocation fails, the database is as before.
abbrev pub IsTried : {K R : Type 0} → Readies R K → TransactionOutcome → AttemptState K R → Tried → AttemptState K R → Type 0
IsTried readies outcome old (Answer results) new =
    (new.database ≡ old.database) × (new.ready ≡ old.ready) × IsUnstoredAnswer outcome old.database results
IsTried readies outcome old (Stored answer) new =
    (r : MadeReady readies outcome old true new.ready) × Commits r.delta old.database answer new.database
IsTried readies outcome old (Blocked timeout) new =
    (new.database ≡ old.database) × (new.ready ≡ old.ready) × (outcome ≡ Waits timeout)
IsTried readies outcome old NoMemory new =
    (new.database ≡ old.database) × ((new.ready ≡ old.ready) ⊎ MadeReady readies outcome old false new.ready)

-- the same for a transaction with these results and changes, for which the store is to be asked
abbrev pub IsTriedInStore : {K R : Type 0} → Readies R K → Items → Delta → AttemptState K R → Tried → AttemptState K R → Type 0
IsTriedInStore readies results delta old (Stored answer) new =
    readies old.ready old.database delta (replies_with results) true new.ready × Commits delta old.database answer new.database
IsTriedInStore readies results delta old NoMemory new =
    (new.database ≡ old.database)
    × ((new.ready ≡ old.ready) ⊎ readies old.ready old.database delta (replies_with results) false new.ready)
IsTriedInStore readies results delta old (Answer others) new = ⊥
IsTriedInStore readies results delta old (Blocked timeout) new = ⊥

-- the answer of a sealed database, unless an allocation fails
abbrev pub IsSealedAnswer : Items → Tried → Type 0
IsSealedAnswer made (Answer results) = results ≡ failed_results made
IsSealedAnswer made NoMemory = Unit {0}
IsSealedAnswer made (Stored answer) = ⊥
IsSealedAnswer made (Blocked timeout) = ⊥

-- a failure of the store has a cause: its device has failed
abbrev pub HasCause : {K : Type 0} → (K → ℕ) → Tried → KeptDatabase K → KeptDatabase K → Type 0
HasCause failed (Stored store.Failed) old new = HasFailed (failed old.keeper) (failed new.keeper)
HasCause failed (Stored store.Kept) old new = Unit {0}
HasCause failed (Stored store.Exhausted) old new = Unit {0}
HasCause failed (Answer results) old new = Unit {0}
HasCause failed (Blocked timeout) old new = Unit {0}
HasCause failed NoMemory old new = Unit {0}
