-- How a transaction ends: the changes to make.
use Rattle.std.proofs.Common.{◌≡◌, ℕ, List, Result, Err, refl, sym, ap, subst, ◌∙◌}
use Rattle.std.specs.FinMap.{empty}
use Rattle.serde_json.specs.Data.{Items}
use Rattle.ov_stored.specs.Changing.{Delta, applied}
use Rattle.ov_integrity.specs.Finishing.{IsFinished}
use Rattle.ov_integrity.specs.declared.finished.Finished.TheVariants.{Changed}
use Rattle.ov_specs.specs.integrity.Committed.{committed}
use Rattle.ov_specs.specs.operations.Errors.{OpError, error_tree}
use Rattle.ov_specs.specs.operations.OpOutcome.{Owns}
use Rattle.ov_specs.specs.operations.Transaction.{TransactionOutcome, Completes, ended, and_error, transaction}
use Rattle.ov_specs.specs.rows.Database.{Database, same_database}
use Rattle.ov_specs.specs.schema.SchemaTypes.{Schema}
use Rattle.ov_specs.specs.values.Uuid.{Uuid}
use Rattle.ov_stage.proofs.Stages.{applied-empty, least-empty}
use Rattle.ov_txn.specs.Performing.{IsPerformed}
use Rattle.ov_txn.specs.Results.{prefixed}
use Rattle.ov_txn.specs.declared.perform.Performed.{Performed}
use Rattle.ov_txn.specs.declared.perform.Performed.TheVariants.{Completed}
use Rattle.ov_txn.proofs.Performing.{append_none, append_one}

-- without changes the database is as it was
pub unchanged : (outcome : TransactionOutcome) (rows : Database) (results : Items) (delta : Delta) → delta ≡ empty → outcome ≡ Completes results rows → IsPerformed outcome rows (Completed results delta)
unchanged outcome rows results delta none ends =
    subst (λ (d : Delta). IsPerformed outcome rows (Completed results d)) (sym none) (ends ∙ ap (Completes results) (sym (applied-empty rows)), least-empty rows ∙ ap (same_database rows) (sym (applied-empty rows)))

-- the result of the commit, with these results of the operations
module _ (results : Items) (before : Database) (r : Result Database OpError) where
  -- the changes lead to the database that it makes
  pub changed : (delta : Delta) → IsFinished r before (Changed delta) → IsPerformed (prefixed results (ended before r)) before (Completed results delta)
  changed delta is = (ap (λ x. prefixed results (ended before x)) is.0 ∙ ap (λ rs. Completes rs (applied delta before)) (append_none results), is.1)

  -- its error follows the results, and nothing is changed
  pub refused : (error : OpError) (performed : Performed) → r ≡ Err error → performed ≡ Completed (and_error results error) empty → IsPerformed (prefixed results (ended before r)) before performed
  refused error performed is made =
      subst (IsPerformed (prefixed results (ended before r)) before) (sym made)
      (unchanged (prefixed results (ended before r)) before (and_error results error) empty refl
      (ap (λ x. prefixed results (ended before x)) is ∙ ap (λ rs. Completes rs before) (append_one results (error_tree error))))

-- the rows before are those of the stage
pub ends_as : (schema : Schema) (version : Uuid) (before now rows : Database) (results : Items) (all : TransactionOutcome) (performed : Performed) → before ≡ rows
    → all ≡ prefixed results (ended rows (committed schema rows version now)) → IsPerformed (prefixed results (ended before (committed schema before version now))) before performed → IsPerformed all rows performed
ends_as schema version before now rows results all performed is ends h =
    subst (λ o. IsPerformed o rows performed) (sym ends) (subst (λ db. IsPerformed (prefixed results (ended db (committed schema db version now))) db performed) is h)

-- performed under the same schema
pub performed_under : (owns : Owns) (draws : List Uuid) (age : ℕ) (operations : Items) (schema its_schema : Schema) (rows : Database) (performed : Performed) → its_schema ≡ schema
    → IsPerformed (transaction its_schema rows owns draws age operations) rows performed → IsPerformed (transaction schema rows owns draws age operations) rows performed
performed_under owns draws age operations schema its_schema rows performed same h = subst (λ (s : Schema). IsPerformed (transaction s rows owns draws age operations) rows performed) same h
