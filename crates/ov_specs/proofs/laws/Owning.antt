-- A transaction that waits also waits if its session owns more locks: each "assert" before the wait that blocks it has passed.
use Rattle.std.proofs.Common.{◌≡◌, ℕ, ◌+◌, List, Bool, true, false, cond, Option, Some, None, ◌⊎◌, inl, inr, refl, sym, ap, ◌∙◌}
use Rattle.std.specs.Prelude.{codes}
use Rattle.std.specs.Str.{bytes_eq}
use Rattle.serde_json.specs.Data.{Data, Items, no_items, item}
use Rattle.ov_specs.specs.operations.Assert.{asserted_lock, assert_outcome}
use Rattle.ov_specs.specs.operations.Errors.{OpError, SyntaxError, NotOwner, error_tree}
use Rattle.ov_specs.specs.operations.Members.{text_at}
use Rattle.ov_specs.specs.operations.Operation.{outcome_of}
use Rattle.ov_specs.specs.operations.OpOutcome.{Owns, OpContext, OpOutcome, Done, Fault, Blocked, empty_result, some_or_fault}
use Rattle.ov_specs.specs.operations.Transaction.{TransactionOutcome, Completes, Waits, and_result, nulls, after, performed, op_context, transaction}
use Rattle.ov_specs.specs.rows.Database.{Database}
use Rattle.ov_specs.specs.schema.SchemaTypes.{Schema}
use Rattle.ov_specs.specs.values.Uuid.{Uuid}

-- the outcomes are the same, or the second is that a lock is not owned
abbrev Same : OpOutcome → OpOutcome → Type 0
Same a b = (a ≡ b) ⊎ (b ≡ Fault NotOwner)

same_some : {A : Type 0} (o : Option A) (error : OpError) (f g : A → OpOutcome) → ((a : A) → Same (f a) (g a)) → Same (some_or_fault o error f) (some_or_fault o error g)
same_some None error f g h = inl refl
same_some (Some a) error f g h = h a

same_if : (b : Bool) (p q r t : OpOutcome) → Same p q → Same r t → Same (cond b p r) (cond b q t)
same_if true p q r t h k = h
same_if false p q r t h k = k

module _ (c : OpContext) (other : Owns) (more : (name : List ℕ) → c.owns name ≡ true → other name ≡ true) where
  abbrev d : OpContext
  d = record c { owns = other }

  same_lock : (rows : Database) (name : List ℕ) (b : Bool) → c.owns name ≡ b → Same (cond (other name) (Done empty_result rows) (Fault NotOwner)) (cond b (Done empty_result rows) (Fault NotOwner))
  same_lock rows name true own = inl (ap (λ b. cond b (Done empty_result rows) (Fault NotOwner)) (more name own))
  same_lock rows name false own = inr refl

  same_assert : (rows : Database) (operation : Data) → Same (assert_outcome d rows operation) (assert_outcome c rows operation)
  same_assert rows operation = same_some (asserted_lock operation) SyntaxError _ _ (λ name. same_lock rows name (c.owns name) refl)

  same_outcome : (place : ℕ) (rows : Database) (operation : Data) → Same (outcome_of d place rows operation) (outcome_of c place rows operation)
  same_outcome place rows operation = same_some (text_at (codes "op") operation) SyntaxError _ _ (λ op.
      same_if (bytes_eq op (codes "insert")) _ _ _ _ (inl refl)
      (same_if (bytes_eq op (codes "select")) _ _ _ _ (inl refl)
      (same_if (bytes_eq op (codes "update")) _ _ _ _ (inl refl)
      (same_if (bytes_eq op (codes "mutate")) _ _ _ _ (inl refl)
      (same_if (bytes_eq op (codes "delete")) _ _ _ _ (inl refl)
      (same_if (bytes_eq op (codes "wait")) _ _ _ _ (inl refl)
      (same_if (bytes_eq op (codes "commit")) _ _ _ _ (inl refl)
      (same_if (bytes_eq op (codes "abort")) _ _ _ _ (inl refl)
      (same_if (bytes_eq op (codes "comment")) _ _ _ _ (inl refl)
      (same_if (bytes_eq op (codes "assert")) _ _ _ _ (same_assert rows operation) (inl refl)))))))))))

  -- ---- a transaction

  rest_waits : (result : Data) (a b : TransactionOutcome) (timeout : Option ℕ) → ((t : Option ℕ) → a ≡ Waits t → b ≡ Waits t) → and_result result a ≡ Waits timeout → and_result result b ≡ Waits timeout
  rest_waits result (Completes results database) b timeout so h = cc
  rest_waits result (Waits t) b timeout so h = ap (and_result result) (so t refl) ∙ h

  after_waits : (before : Database) (outcome : OpOutcome) (operations : Items) (go next : Database → TransactionOutcome) (timeout : Option ℕ) → ((rows : Database) (t : Option ℕ) → go rows ≡ Waits t → next rows ≡ Waits t)
      → after before outcome operations go ≡ Waits timeout → after before outcome operations next ≡ Waits timeout
  after_waits before (Done result rows) operations go next timeout so h = rest_waits result (go rows) (next rows) timeout (so rows) h
  after_waits before (Fault error) operations go next timeout so h = cc
  after_waits before (Blocked t) operations go next timeout so h = h

  performed_waits : (place : ℕ) (operations : Items) (rows : Database) (timeout : Option ℕ) → performed c place operations rows ≡ Waits timeout → performed d place operations rows ≡ Waits timeout
  performed_waits place no_items rows timeout h = h
  performed_waits place (item operation operations) rows timeout h = by (λ left t. performed_waits (place + 1) operations left t) (same_outcome place rows operation)
    where
      then : OpContext → Database → TransactionOutcome
      then x = performed x (place + 1) operations

      by : ((left : Database) (t : Option ℕ) → then c left ≡ Waits t → then d left ≡ Waits t) → Same (outcome_of d place rows operation) (outcome_of c place rows operation)
          → after c.before (outcome_of d place rows operation) operations (then d) ≡ Waits timeout
      by so (inl same) = after_waits c.before (outcome_of d place rows operation) operations (then c) (then d) timeout so (ap (λ x. after c.before x operations (then c)) same ∙ h)
      by so (inr fault) = absurd (no (sym (ap (λ x. after c.before x operations (then c)) fault) ∙ h))
        where
          no : Completes (item (error_tree NotOwner) (nulls operations)) c.before ≡ Waits timeout → ⊥
          no e = cc

-- it also waits with more locks
pub waits_owning : (schema : Schema) (before : Database) (owns other : Owns) (draws : List Uuid) (age : ℕ) (operations : Items) (timeout : Option ℕ) → ((name : List ℕ) → owns name ≡ true → other name ≡ true)
    → transaction schema before owns draws age operations ≡ Waits timeout → transaction schema before other draws age operations ≡ Waits timeout
waits_owning schema before owns other draws age operations timeout more h =
    performed_waits (op_context schema before owns draws age operations) other more 0 operations before timeout h
