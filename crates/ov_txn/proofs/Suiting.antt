-- The rows that a transaction changes are rows of the schema, and it leaves whole rows.
use Rattle.std.proofs.Common.{◌≡◌, ℕ, List, true, ap, subst, ◌∙◌}
use Rattle.std.specs.List.{list_all}
use Rattle.std.specs.FinMap.{get}
use Rattle.serde_json.specs.Data.{Items}
use Rattle.ov_specs.specs.integrity.Committed.{is_whole}
use Rattle.ov_specs.specs.operations.OpOutcome.{Owns}
use Rattle.ov_specs.specs.operations.Transaction.{transaction}
use Rattle.ov_specs.specs.rows.Database.{Database}
use Rattle.ov_specs.specs.rows.Suits.{Suits}
use Rattle.ov_specs.specs.schema.Schema.{IsAccepted}
use Rattle.ov_specs.specs.schema.SchemaTypes.{Schema}
use Rattle.ov_specs.specs.values.Uuid.{Uuid, is_uuid}
use Rattle.ov_specs.proofs.laws.OutcomeSuiting.{SuitsTransaction, transaction_suits}
use Rattle.ov_specs.proofs.laws.StepWhole.{WholeTransaction, transaction_whole}
use Rattle.ov_stored.specs.Changing.{Delta, applied, SuitsChanges}
use Rattle.ov_stored.proofs.Places.{or_before, get-applied}
use Rattle.ov_txn.specs.Performing.{IsPerformed, SuitsPerformed, WholePerformed}
use Rattle.ov_txn.specs.declared.perform.Performed.{Performed}
use Rattle.ov_txn.specs.declared.perform.Performed.TheVariants.{Completed, Blocked}

changes_suit : (schema : Schema) (before : Database) (delta : Delta) → Suits schema (applied delta before) → SuitsChanges schema delta
changes_suit schema before delta suits key row h = suits key row (get-applied delta before key ∙ ap (λ o. or_before o (get before key)) h)

pub performed_suits : (schema : Schema) (before : Database) (owns : Owns) (draws : List Uuid) (age : ℕ) (operations : Items) (performed : Performed) → list_all is_uuid draws ≡ true → Suits schema before
    → IsPerformed (transaction schema before owns draws age operations) before performed → SuitsPerformed schema performed
performed_suits schema before owns draws age operations (Completed results delta) are suits is =
    changes_suit schema before delta (subst (SuitsTransaction schema) is.0 (transaction_suits schema before owns draws age operations are suits))
performed_suits schema before owns draws age operations (Blocked timeout) are suits is = tt

pub performed_whole : (schema : Schema) (before : Database) (owns : Owns) (draws : List Uuid) (age : ℕ) (operations : Items) (performed : Performed) → IsAccepted schema → is_whole schema before ≡ true
    → IsPerformed (transaction schema before owns draws age operations) before performed → WholePerformed schema before performed
performed_whole schema before owns draws age operations (Completed results delta) accepted whole is = subst (WholeTransaction schema) is.0 (transaction_whole schema before owns draws age operations accepted whole)
performed_whole schema before owns draws age operations (Blocked timeout) accepted whole is = tt
