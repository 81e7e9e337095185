-- What attempts of transactions leave of the keeper and of the seal.
use Rattle.std.specs.Prelude.{◌≡◌, ℕ, ◌≤◌, List, true, false, is_some, Option, Some, None}
use Rattle.ov_specs.specs.machine.Machine as machine
use Rattle.ov_specs.specs.rows.Database.{Database}
use Rattle.ov_keeper.specs.Keeping.{HasFailed}
use Rattle.ov_db.specs.KeptDatabase.{KeptDatabase}
use Rattle.ov_history.specs.Entries.{is_of_store, is_failure, some_outcome}
use Rattle.ov_history.specs.declared.event.Outcome.{Outcome}
use Rattle.ov_history.specs.declared.event.Outcome.TheVariants as outcome

-- What an attempt leaves of the database, by its listed outcome: if the store failed, its device has; if it answered
-- otherwise, the seal is unchanged; if it was not asked, the database and its keeper are as before.
abbrev pub AsksStore : {K : Type 0} → (K → ℕ) → Option Outcome → KeptDatabase K → KeptDatabase K → Type 0
AsksStore failed (Some outcome.Failed) old new = HasFailed (failed old.keeper) (failed new.keeper)
AsksStore failed (Some outcome.Committed) old new = new.sealed ≡ old.sealed
AsksStore failed (Some outcome.Exhausted) old new = new.sealed ≡ old.sealed
AsksStore failed (Some outcome.NoMemory) old new = new ≡ old
AsksStore failed None old new = new ≡ old

-- a keeper, how often its device has failed, and the seal of the database
pub record KeeperState (K : Type 0) : Type 0 where
  pub keeper : K
  pub failures : ℕ
  pub sealed : Option Database

-- those of a database
abbrev pub keeper_state : {K : Type 0} → (K → ℕ) → KeptDatabase K → KeeperState K
keeper_state failed db = record { keeper = db.keeper; failures = failed db.keeper; sealed = db.sealed }

-- the keeper is as before, and no further failure is counted
abbrev pub HasSameKeeper : {K : Type 0} → KeeperState K → KeeperState K → Type 0
HasSameKeeper old new = (new.keeper ≡ old.keeper) × (new.failures ≡ old.failures)

-- if the database became sealed, there is a cause: the device has failed
abbrev pub IsSealedForCause : {K : Type 0} → KeeperState K → KeeperState K → Type 0
IsSealedForCause old new = is_some old.sealed ≡ false → is_some new.sealed ≡ true → HasFailed old.failures new.failures

-- What attempts leave, by their listed outcomes: without an answer of the store the keeper is as before; if the store failed,
-- or the database became sealed, the device has failed.
pub record AsksKeeper {K : Type 0} (attempts : List machine.Attempt) (old new : KeeperState K) : Type 0 where
  pub unasked : some_outcome is_of_store attempts ≡ false → HasSameKeeper old new
  pub failure : some_outcome is_failure attempts ≡ true → HasFailed old.failures new.failures
  pub seal : IsSealedForCause old new
  pub counts : old.failures ≤ new.failures
