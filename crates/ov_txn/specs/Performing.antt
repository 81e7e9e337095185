-- What performing a transaction results in, in the code as in the definitions.
use Rattle.std.specs.Prelude.{◌≡◌, ◌==◌, true}
use Rattle.std.specs.FinMap.{len}
use Rattle.ov_stored.specs.Changing.{applied, SuitsChanges}
use Rattle.ov_specs.specs.integrity.Committed.{is_whole}
use Rattle.ov_specs.specs.operations.Transaction.{TransactionOutcome, Completes, Waits}
use Rattle.ov_specs.specs.rows.Database.{Database, same_database}
use Rattle.ov_specs.specs.schema.SchemaTypes.{Schema}
use Rattle.ov_txn.specs.declared.perform.Performed.{Performed}
use Rattle.ov_txn.specs.declared.perform.Performed.TheVariants.{Completed, Blocked}

-- the results, with the changes that lead to the database and are empty exactly if it is as before; or the timeout
abbrev pub IsPerformed : TransactionOutcome → Database → Performed → Type 0
IsPerformed outcome before (Completed results delta) =
    (outcome ≡ Completes results (applied delta before)) × ((len delta == 0) ≡ same_database before (applied delta before))
IsPerformed outcome before (Blocked timeout) = outcome ≡ Waits timeout

-- the rows to be put are rows of the schema
abbrev pub SuitsPerformed : Schema → Performed → Type 0
SuitsPerformed schema (Completed results delta) = SuitsChanges schema delta
SuitsPerformed schema (Blocked timeout) = Unit {0}

-- the changes leave whole rows
abbrev pub WholePerformed : Schema → Database → Performed → Type 0
WholePerformed schema before (Completed results delta) = is_whole schema (applied delta before) ≡ true
WholePerformed schema before (Blocked timeout) = Unit {0}
