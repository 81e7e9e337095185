-- A transaction with an error among its results leaves the database as it was.
use Rattle.std.proofs.Common.{◌≡◌, ℕ, ◌+◌, List, map, Bool, true, false, cond, Option, Some, None, refl}
use Rattle.std.specs.Prelude.{codes, nat_le, ◌||◌, not, option_and_then, Result, Ok, Err}
use Rattle.std.specs.Str.{bytes_eq}
use Rattle.std.specs.FinMap.{get}
use Rattle.serde_json.specs.Data.{Data, Items, no_items, item}
use Rattle.serde_json.specs.Find as find
use Rattle.serde_json.specs.Find.{as_bool}
use Rattle.ov_specs.specs.integrity.Committed.{committed}
use Rattle.ov_specs.specs.operations.Operation.{outcome_of}
use Rattle.ov_specs.specs.operations.Transaction.{TransactionOutcome, Completes, Waits, and_result, after, ended, performed, op_context, transaction, has_error}
use Rattle.ov_specs.specs.operations.Assert.{asserted_lock}
use Rattle.ov_specs.specs.operations.Conditions.{Condition}
use Rattle.ov_specs.specs.operations.Delete.{delete_outcome}
use Rattle.ov_specs.specs.operations.Errors.{OpError, SyntaxError, UnknownTable}
use Rattle.ov_specs.specs.operations.GivenRow.{may_be_changed, given_values}
use Rattle.ov_specs.specs.operations.Insert.{new_row, is_taken, put_new, uuid_fault, name_fault, insert_outcome}
use Rattle.ov_specs.specs.operations.MatchingRows.{on_conditions, matching, conditions_read}
use Rattle.ov_specs.specs.operations.Mutate.{mutations_read, mutated_rows, mutate_outcome}
use Rattle.ov_specs.specs.operations.NamedUuids.{id_at}
use Rattle.ov_specs.specs.operations.Members.{text_at, array_at, object_at}
use Rattle.ov_specs.specs.operations.OpOutcome.{Owns, OpContext, OpOutcome, Done, Fault, Blocked, some_or_fault, ok_or_fault, unless_fault, names_in, on_table}
use Rattle.ov_specs.specs.operations.Select.{select_outcome, projection, selected_columns}
use Rattle.ov_specs.specs.operations.Update.{update_outcome}
use Rattle.ov_specs.specs.operations.Wait.{timeout_read, compared_columns, until_of, told_rows, is_met, unmet, wait_outcome}
use Rattle.ov_specs.specs.rows.Database.{Columns, Database}
use Rattle.ov_specs.specs.schema.SchemaTypes.{Table, Schema}
use Rattle.ov_specs.specs.values.Uuid.{Uuid}
use Rattle.ov_specs.specs.wire.Message.{has_member}

-- ---- the result of an operation that is not refused has no error

-- its result, if it has one, has no error
abbrev pub is_plain : OpOutcome → Bool
is_plain (Done result rows) = not (has_member (codes "error") result)
is_plain (Fault error) = true
is_plain (Blocked timeout) = true

plain_some : {A : Type 0} (o : Option A) (error : OpError) (next : A → OpOutcome) → ((a : A) → is_plain (next a) ≡ true) → is_plain (some_or_fault o error next) ≡ true
plain_some None error next h = refl
plain_some (Some a) error next h = h a

plain_ok : {A : Type 0} (r : Result A OpError) (next : A → OpOutcome) → ((a : A) → is_plain (next a) ≡ true) → is_plain (ok_or_fault r next) ≡ true
plain_ok (Err error) next h = refl
plain_ok (Ok a) next h = h a

plain_if : (b : Bool) (d e : OpOutcome) → is_plain d ≡ true → is_plain e ≡ true → is_plain (cond b d e) ≡ true
plain_if true d e p q = p
plain_if false d e p q = q

plain_unless : (fault : Option OpError) (outcome : OpOutcome) → is_plain outcome ≡ true → is_plain (unless_fault fault outcome) ≡ true
plain_unless None outcome h = h
plain_unless (Some error) outcome h = refl

module _ (c : OpContext) where
  plain_on_table : (d : Data) (next : List ℕ → Table → OpOutcome) → ((name : List ℕ) (table : Table) → is_plain (next name table) ≡ true) → is_plain (on_table c d next) ≡ true
  plain_on_table d next h = plain_some (text_at (codes "table") d) SyntaxError _ (λ name. plain_some (get c.schema.tables name) UnknownTable _ (λ table. h name table))

  plain_on_conditions : (table : Table) (d : Data) (next : List Condition → OpOutcome) → ((conditions : List Condition) → is_plain (next conditions) ≡ true) → is_plain (on_conditions c table d next) ≡ true
  plain_on_conditions table d next h = plain_some (array_at (codes "where") d) SyntaxError _ (λ items. plain_ok (conditions_read (names_in c) table items) _ h)

  plain_new : (rows : Database) (name : List ℕ) (columns : Columns) (is_chosen : Bool) (id : Uuid) → is_plain (put_new c rows name columns is_chosen id) ≡ true
  plain_new rows name columns is_chosen id = plain_if (is_taken c.before rows (name, id) is_chosen) _ _ refl refl

  plain_insert : (place : ℕ) (rows : Database) (d : Data) → is_plain (insert_outcome c place rows d) ≡ true
  plain_insert place rows d = plain_on_table d _ (λ name table.
      plain_unless (uuid_fault (find.get (codes "uuid") d)) _
      (plain_unless (name_fault c place (find.get (codes "uuid-name") d)) _
      (plain_some (object_at (codes "row") d) SyntaxError _ (λ members.
      plain_ok (new_row (names_in c) table members) _ (λ columns. plain_new rows name columns (has_member (codes "uuid") d) (id_at c.ids c.operations place))))))

  plain_select : (rows : Database) (d : Data) → is_plain (select_outcome c rows d) ≡ true
  plain_select rows d = plain_on_table d _ (λ name table. plain_on_conditions table d _ (λ conditions. plain_ok (selected_columns table (find.get (codes "columns") d)) _ (λ names. refl)))

  plain_update : (rows : Database) (d : Data) → is_plain (update_outcome c rows d) ≡ true
  plain_update rows d = plain_on_table d _ (λ name table. plain_on_conditions table d _ (λ conditions.
      plain_some (object_at (codes "row") d) SyntaxError _ (λ members. plain_ok (given_values may_be_changed (names_in c) table members) _ (λ given. refl))))

  plain_mutate : (rows : Database) (d : Data) → is_plain (mutate_outcome c rows d) ≡ true
  plain_mutate rows d = plain_on_table d _ (λ name table. plain_on_conditions table d _ (λ conditions.
      plain_some (array_at (codes "mutations") d) SyntaxError _ (λ items.
      plain_ok (mutations_read (names_in c) table items) _ (λ mutations. plain_ok (mutated_rows mutations (matching rows name conditions)) _ (λ changed. refl)))))

  plain_delete : (rows : Database) (d : Data) → is_plain (delete_outcome c rows d) ≡ true
  plain_delete rows d = plain_on_table d _ (λ name table. plain_on_conditions table d _ (λ conditions. refl))

  plain_unmet : (timeout : Option ℕ) → is_plain (unmet c.age timeout) ≡ true
  plain_unmet None = refl
  plain_unmet (Some timeout) = plain_if (nat_le timeout c.age) _ _ refl refl

  plain_wait : (rows : Database) (d : Data) → is_plain (wait_outcome c rows d) ≡ true
  plain_wait rows d = plain_on_table d _ (λ name table.
      plain_ok (timeout_read (find.get (codes "timeout") d)) _ (λ timeout.
      plain_on_conditions table d _ (λ conditions.
      plain_ok (compared_columns table (find.get (codes "columns") d)) _ (λ compared.
      plain_some (option_and_then until_of (text_at (codes "until") d)) SyntaxError _ (λ until.
      plain_some (array_at (codes "rows") d) SyntaxError _ (λ items.
      plain_ok (told_rows (names_in c) table compared items) _ (λ told.
      plain_if (is_met until (map (projection compared) (matching rows name conditions)) told) _ _ refl (plain_unmet timeout))))))))

  pub plain_outcome : (place : ℕ) (rows : Database) (d : Data) → is_plain (outcome_of c place rows d) ≡ true
  plain_outcome place rows d = plain_some (text_at (codes "op") d) SyntaxError _ (λ op.
      plain_if (bytes_eq op (codes "insert")) _ _ (plain_insert place rows d)
      (plain_if (bytes_eq op (codes "select")) _ _ (plain_select rows d)
      (plain_if (bytes_eq op (codes "update")) _ _ (plain_update rows d)
      (plain_if (bytes_eq op (codes "mutate")) _ _ (plain_mutate rows d)
      (plain_if (bytes_eq op (codes "delete")) _ _ (plain_delete rows d)
      (plain_if (bytes_eq op (codes "wait")) _ _ (plain_wait rows d)
      (plain_if (bytes_eq op (codes "commit")) _ _ (plain_some (option_and_then as_bool (find.get (codes "durable") d)) SyntaxError _ (λ durable. refl))
      (plain_if (bytes_eq op (codes "abort")) _ _ refl
      (plain_if (bytes_eq op (codes "comment")) _ _ (plain_some (text_at (codes "comment") d) SyntaxError _ (λ text. refl))
      (plain_if (bytes_eq op (codes "assert")) _ _ (plain_some (asserted_lock d) SyntaxError _ (λ name. plain_if (c.owns name) _ _ refl refl)) refl))))))))))

-- ---- a transaction with an error among its results

-- if its results have an error, the database is this one
abbrev pub LeavesIfError : Database → TransactionOutcome → Type 0
LeavesIfError before (Completes results database) = has_error results ≡ true → database ≡ before
LeavesIfError before (Waits timeout) = Unit {0}

-- the first is none, so the second is one
second : (a b : Bool) → not a ≡ true → (a || b) ≡ true → b ≡ true
second false b none h = h
second true b none h = cc

leaves_result : (before : Database) (result : Data) (t : TransactionOutcome) → not (has_member (codes "error") result) ≡ true → LeavesIfError before t → LeavesIfError before (and_result result t)
leaves_result before result (Completes results database) plain leaves = λ h. leaves (second (has_member (codes "error") result) (has_error results) plain h)
leaves_result before result (Waits timeout) plain leaves = tt

leaves_after : (before : Database) (outcome : OpOutcome) (operations : Items) (go : Database → TransactionOutcome) → is_plain outcome ≡ true → ((rows : Database) → LeavesIfError before (go rows))
    → LeavesIfError before (after before outcome operations go)
leaves_after before (Done result rows) operations go plain next = leaves_result before result (go rows) plain (next rows)
leaves_after before (Fault error) operations go plain next = λ h. refl
leaves_after before (Blocked timeout) operations go plain next = tt

-- a commit has an error, or no result at all
leaves_end : (before : Database) (r : Result Database OpError) → LeavesIfError before (ended before r)
leaves_end before (Ok database) = λ h. cc
leaves_end before (Err error) = λ h. refl

performed_leaves : (c : OpContext) (place : ℕ) (operations : Items) (rows : Database) → LeavesIfError c.before (performed c place operations rows)
performed_leaves c place no_items rows = leaves_end c.before (committed c.schema c.before c.version rows)
performed_leaves c place (item d operations) rows =
    leaves_after c.before (outcome_of c place rows d) operations (performed c (place + 1) operations) (plain_outcome c place rows d) (λ left. performed_leaves c (place + 1) operations left)

-- a transaction with an error among its results leaves the database as it was
pub refused_leaves : (schema : Schema) (before : Database) (owns : Owns) (draws : List Uuid) (age : ℕ) (operations : Items) → LeavesIfError before (transaction schema before owns draws age operations)
refused_leaves schema before owns draws age operations = performed_leaves (op_context schema before owns draws age operations) 0 operations before
