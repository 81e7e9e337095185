-- One transaction: its operations in order, each on the rows that those before it left, and its commit; a wait may block it
-- (RFC 7047, 4.1.3 and 5.2).
use Rattle.std.specs.Prelude.{ℕ, ◌+◌, ◌||◌, Bool, false, List, drop, Option, Result, Ok, Err, codes}
use Rattle.serde_json.specs.Data.{Data, null, Items, no_items, item}
use Rattle.ov_specs.specs.integrity.Committed.{committed}
use Rattle.ov_specs.specs.operations.Errors.{OpError, ResourcesExhausted, InputOutput, error_tree}
use Rattle.ov_specs.specs.operations.InsertedIds.{inserted_ids}
use Rattle.ov_specs.specs.operations.Operation.{outcome_of}
use Rattle.ov_specs.specs.operations.OpOutcome.{Owns, OpContext, OpOutcome, Done, Fault, Blocked}
use Rattle.ov_specs.specs.rows.Database.{Database}
use Rattle.ov_specs.specs.schema.SchemaTypes.{Schema}
use Rattle.ov_specs.specs.values.Uuid.{Uuid, uuid_at}
use Rattle.ov_specs.specs.wire.Message.{has_member}

-- ---- what it does

-- A transaction has the results of its operations, and the database after it; or it waits, with the timeout of the wait that
-- is not met (RFC 7047, 4.1.3 and 5.2.6).
pub data TransactionOutcome : Type 0 where
  Completes : (results : Items) (database : Database) → TransactionOutcome
  Waits : (timeout : Option ℕ) → TransactionOutcome

-- a result in front
abbrev pub and_result : Data → TransactionOutcome → TransactionOutcome
and_result result (Completes results database) = Completes (item result results) database
and_result result (Waits timeout) = Waits timeout

-- null for each of them (RFC 7047, 4.1.3)
abbrev pub nulls : Items → Items
nulls no_items = no_items
nulls (item d operations) = item null (nulls operations)

-- After an operation that fails the results are null, and the database is as before the transaction. If an operation waits,
-- the whole transaction waits and changes nothing (RFC 7047, 4.1.3 and 5.2.6).
abbrev pub after : Database → OpOutcome → Items → (Database → TransactionOutcome) → TransactionOutcome
after before (Done result rows) operations go = and_result result (go rows)
after before (Fault error) operations go = Completes (item (error_tree error) (nulls operations)) before
after before (Blocked timeout) operations go = Waits timeout

-- The end of the operations: the database is what the commit makes. If it fails, one more result has its error, and the
-- database is as before the transaction (RFC 7047, 4.1.3).
abbrev pub ended : Database → Result Database OpError → TransactionOutcome
ended before (Ok database) = Completes no_items database
ended before (Err error) = Completes (item (error_tree error) no_items) before

-- the operations from this place on, in order, and then the commit (RFC 7047, 4.1.3)
abbrev pub performed : OpContext → ℕ → Items → Database → TransactionOutcome
performed c place no_items rows = ended c.before (committed c.schema c.before c.version rows)
performed c place (item d operations) rows =
    after c.before (outcome_of c place rows d) operations (performed c (place + 1) operations)

-- The context of a transaction's operations. The first draw is the version of the rows that it changes, the others are for its
-- inserts, one each (RFC 7047, 4.1.3 and 5.2.1).
abbrev pub op_context : Schema → Database → Owns → List Uuid → ℕ → Items → OpContext
op_context schema before owns draws age operations = record {
  schema = schema;
  before = before;
  owns = owns;
  version = uuid_at draws 0;
  ids = inserted_ids (drop 1 draws) operations;
  operations = operations;
  age = age;
}

-- a transaction of this age on the database, of a session that owns these locks, with these draws (RFC 7047, 4.1.3)
abbrev pub transaction : Schema → Database → Owns → List Uuid → ℕ → Items → TransactionOutcome
transaction schema before owns draws age operations =
    performed (op_context schema before owns draws age operations) 0 operations before

-- one of the results has an error (RFC 7047, 4.1.3)
abbrev pub has_error : Items → Bool
has_error no_items = false
has_error (item result results) = has_member (codes "error") result || has_error results

-- ---- a commit that fails

-- one more element
abbrev pub and_item : Items → Data → Items
and_item no_items d = item d no_items
and_item (item e items) d = item e (and_item items d)

-- the results, followed by the error of the commit (RFC 7047, 4.1.3)
abbrev pub and_error : Items → OpError → Items
and_error results error = and_item results (error_tree error)

-- the results if the store refuses the changes for lack of memory or for their size (RFC 7047, 4.1.3)
abbrev pub exhausted_results : Items → Items
exhausted_results results = and_error results ResourcesExhausted

-- the results if the store fails (RFC 7047, 4.1.3)
abbrev pub failed_results : Items → Items
failed_results results = and_error results InputOutput
