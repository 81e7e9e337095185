-- The result of a transaction for which the store is to be asked.
use Rattle.std.proofs.Common.{◌≡◌, Option, Some, None, false, refl, inl, inr}
use Rattle.std.specs.Prelude.{is_some}
use Rattle.serde_json.specs.Data.{Items}
use Rattle.ov_stored.specs.Changing.{Delta, applied}
use Rattle.ov_specs.specs.operations.Transaction.{TransactionOutcome, Completes}
use Rattle.ov_specs.specs.rows.Database.{Database, same_database}
use Rattle.ov_txn.specs.Attempting.{Readies, AttemptState, IsTried, IsTriedInStore}
use Rattle.ov_txn.specs.declared.tried.Tried.{Tried}
use Rattle.ov_txn.specs.declared.tried.Tried.TheVariants.{Answer, Stored, Blocked, NoMemory}

-- no database is sealed
pub not_sealed : (o : Option Database) → is_some o ≡ false → o ≡ None
not_sealed None h = refl
not_sealed (Some d) h = cc

module _ {K R : Type 0} (readies : Readies R K) (outcome : TransactionOutcome) (old : AttemptState K R) (results : Items) (delta : Delta) (new : AttemptState K R)
    (completes : outcome ≡ Completes results (applied delta old.database.committed)) (changes : same_database old.database.committed (applied delta old.database.committed) ≡ false) (unsealed : old.database.sealed ≡ None) where
  pub stores : (tried : Tried) → IsTriedInStore readies results delta old tried new → IsTried readies outcome old tried new
  stores (Answer others) never = absurd never
  stores (Blocked timeout) never = absurd never
  stores (Stored answer) (made, commits) = (record { results = results; delta = delta; completes = completes; changes = changes; unsealed = unsealed; made = made }, commits)
  stores NoMemory (same, inl kept) = (same, inl kept)
  stores NoMemory (same, inr made) = (same, inr (record { results = results; delta = delta; completes = completes; changes = changes; unsealed = unsealed; made = made }))
