-- How a transaction goes on, operation by operation.
use Rattle.std.proofs.Common.{◌≡◌, ℕ, ◌+◌, ◌<◌, List, ◌∷◌, length, get_or, drop, refl, sym, ap, ◌∙◌}
use Rattle.std.specs.Prelude.{Option}
use Rattle.std.proofs.lemmas.List.{drop_more}
use Rattle.serde_json.specs.Data.{Data, null, Items, no_items, item}
use Rattle.serde_json.specs.View.{view, items_view}
use Rattle.serde_json.specs.declared.value.Value.{Value}
use Rattle.ov_specs.specs.integrity.Committed.{committed}
use Rattle.ov_specs.specs.rows.Database.{Database}
use Rattle.ov_specs.specs.operations.Errors.{OpError, error_tree}
use Rattle.ov_specs.specs.operations.Operation.{outcome_of}
use Rattle.ov_specs.specs.operations.OpOutcome.{OpContext, OpOutcome, Done, Fault, Blocked}
use Rattle.ov_specs.specs.operations.Transaction.{TransactionOutcome, Completes, Waits, and_result, and_item, nulls, after, ended, performed}
use Rattle.ov_txn.specs.Results.{nulls_after, items_append, prefixed}

pub items_at : (vs : List Value) (i : ℕ) (v : Value) → i < length vs → v ≡ get_or vs i v → items_view (drop i vs) ≡ item (view v) (items_view (drop (i + 1) vs))
items_at vs i v h e = ap items_view (drop_more vs i v h ∙ ap (λ y. y ∷ drop (i + 1) vs) (sym e))

append_and : (xs : Items) (d : Data) (ys : Items) → items_append (and_item xs d) ys ≡ items_append xs (item d ys)
append_and no_items d ys = refl
append_and (item x xs) d ys = ap (item x) (append_and xs d ys)

pub append_none : (xs : Items) → items_append xs no_items ≡ xs
append_none no_items = refl
append_none (item x xs) = ap (item x) (append_none xs)

nulls_is : (xs ys : Items) → items_append xs (nulls ys) ≡ nulls_after xs ys
nulls_is xs no_items = append_none xs
nulls_is xs (item y ys) = sym (append_and xs null (nulls ys)) ∙ nulls_is (and_item xs null) ys

-- nothing follows but one result
pub append_one : (xs : Items) (d : Data) → items_append xs (item d no_items) ≡ and_item xs d
append_one xs d = sym (append_and xs d no_items) ∙ append_none (and_item xs d)

-- one more result before what follows
prefixed_and : (rs : Items) (r : Data) (t : TransactionOutcome) → prefixed rs (and_result r t) ≡ prefixed (and_item rs r) t
prefixed_and rs r (Completes others database) = ap (λ ys. Completes ys database) (sym (append_and rs r others))
prefixed_and rs r (Waits timeout) = refl

-- nothing comes before
pub prefixed_none : (t : TransactionOutcome) → t ≡ prefixed no_items t
prefixed_none (Completes others database) = refl
prefixed_none (Waits timeout) = refl

-- the whole transaction, if these results come before and these operations are left from this place on
module _ (c : OpContext) (all : TransactionOutcome) (place : ℕ) (rows : Database) (rest rs : Items) (going : all ≡ prefixed rs (performed c place rest rows)) where
  next : (d : Data) (ds : Items) (outcome : OpOutcome) → rest ≡ item d ds → outcome_of c place rows d ≡ outcome → all ≡ prefixed rs (after c.before outcome ds (performed c (place + 1) ds))
  next d ds outcome at is = going ∙ ap (λ ys. prefixed rs (performed c place ys rows)) at ∙ ap (λ o. prefixed rs (after c.before o ds (performed c (place + 1) ds))) is

  -- an operation with a result
  pub at_does : (d r : Data) (ds : Items) (left : Database) → rest ≡ item d ds → outcome_of c place rows d ≡ Done r left → all ≡ prefixed (and_item rs r) (performed c (place + 1) ds left)
  at_does d r ds left at is = next d ds (Done r left) at is ∙ prefixed_and rs r (performed c (place + 1) ds left)

  -- an operation that fails
  pub at_fails : (d : Data) (error : OpError) (ds : Items) → rest ≡ item d ds → outcome_of c place rows d ≡ Fault error → all ≡ Completes (nulls_after (and_item rs (error_tree error)) ds) c.before
  at_fails d error ds at is =
      next d ds (Fault error) at is ∙ ap (λ ys. Completes ys c.before) (sym (append_and rs (error_tree error) (nulls ds)) ∙ nulls_is (and_item rs (error_tree error)) ds)

  -- an operation that waits
  pub at_waits : (d : Data) (timeout : Option ℕ) (ds : Items) → rest ≡ item d ds → outcome_of c place rows d ≡ Blocked timeout → all ≡ Waits timeout
  at_waits d timeout ds at is = next d ds (Blocked timeout) at is

  -- no operation is left
  pub at_end : rest ≡ no_items → all ≡ prefixed rs (ended c.before (committed c.schema c.before c.version rows))
  at_end at = going ∙ ap (λ ys. prefixed rs (performed c place ys rows)) at
