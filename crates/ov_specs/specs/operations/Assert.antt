-- assert: the transaction fails unless its session owns the lock (RFC 7047, 5.2.10).
use Rattle.std.specs.Prelude.{List, ℕ, Option, if◌then◌else◌, codes}
use Rattle.serde_json.specs.Data.{Data}
use Rattle.ov_specs.specs.locks.Queues.{lock_name}
use Rattle.ov_specs.specs.operations.Errors.{SyntaxError, NotOwner}
use Rattle.ov_specs.specs.operations.Members.{text_at}
use Rattle.ov_specs.specs.operations.OpOutcome.{OpContext, OpOutcome, Done, Fault, empty_result, some_or_fault}
use Rattle.ov_specs.specs.rows.Database.{Database}

-- the lock that is asserted
abbrev pub asserted_lock : Data → Option (List ℕ)
asserted_lock d = lock_name (text_at (codes "lock") d)

-- the result {}, if the session owns the lock when the transaction is tried (RFC 7047, 5.2.10)
abbrev pub assert_outcome : OpContext → Database → Data → OpOutcome
assert_outcome c rows d =
    some_or_fault (asserted_lock d) SyntaxError (λ name. if c.owns name then Done empty_result rows else Fault NotOwner)
