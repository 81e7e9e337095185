-- Any operation of a transaction, by its "op" (RFC 7047, 5.2).
use Rattle.std.specs.Prelude.{ℕ, List, if◌then◌else◌, codes}
use Rattle.std.specs.Str.{bytes_eq}
use Rattle.serde_json.specs.Data.{Data}
use Rattle.ov_specs.specs.operations.Abort.{abort_outcome}
use Rattle.ov_specs.specs.operations.Assert.{assert_outcome}
use Rattle.ov_specs.specs.operations.Comment.{comment_outcome}
use Rattle.ov_specs.specs.operations.Commit.{commit_outcome}
use Rattle.ov_specs.specs.operations.Delete.{delete_outcome}
use Rattle.ov_specs.specs.operations.Errors.{SyntaxError, UnknownOperation}
use Rattle.ov_specs.specs.operations.Insert.{insert_outcome}
use Rattle.ov_specs.specs.operations.Members.{text_at}
use Rattle.ov_specs.specs.operations.Mutate.{mutate_outcome}
use Rattle.ov_specs.specs.operations.OpOutcome.{OpContext, OpOutcome, Fault, some_or_fault}
use Rattle.ov_specs.specs.operations.Select.{select_outcome}
use Rattle.ov_specs.specs.operations.Update.{update_outcome}
use Rattle.ov_specs.specs.operations.Wait.{wait_outcome}
use Rattle.ov_specs.specs.rows.Database.{Database}

-- An operation of this name that touches no row, and steers its transaction; every other name is unknown (RFC 7047, 5.2.6 to
-- 5.2.10; the refusal of others is this server's).
abbrev pub control_outcome : OpContext → Database → Data → List ℕ → OpOutcome
control_outcome c rows d op =
    if bytes_eq op (codes "wait") then wait_outcome c rows d
    else (if bytes_eq op (codes "commit") then commit_outcome rows d
    else (if bytes_eq op (codes "abort") then abort_outcome
    else (if bytes_eq op (codes "comment") then comment_outcome rows d
    else (if bytes_eq op (codes "assert") then assert_outcome c rows d
    else Fault UnknownOperation))))

-- What the operation at this place of the transaction comes to, on the rows that those before it left. It is an object, and
-- "op" is a text (else a syntax error).
abbrev pub outcome_of : OpContext → ℕ → Database → Data → OpOutcome
outcome_of c place rows d = some_or_fault (text_at (codes "op") d) SyntaxError (λ op.
    if bytes_eq op (codes "insert") then insert_outcome c place rows d
    else (if bytes_eq op (codes "select") then select_outcome c rows d
    else (if bytes_eq op (codes "update") then update_outcome c rows d
    else (if bytes_eq op (codes "mutate") then mutate_outcome c rows d
    else (if bytes_eq op (codes "delete") then delete_outcome c rows d
    else control_outcome c rows d op)))))
