-- Each transaction and each step of the machine keeps whole rows whole, if the schema is accepted.
use Rattle.std.proofs.Common.{◌≡◌, ℕ, ◌+◌, List, true, Some, Result, Ok, Err, refl, sym, subst}
use Rattle.serde_json.specs.Data.{Data, Items, no_items, item}
use Rattle.ov_specs.specs.integrity.Committed.{committed, is_whole}
use Rattle.ov_specs.specs.machine.History.{run}
use Rattle.ov_specs.specs.machine.Machine.{State, Entry, Stepped, step, opening}
use Rattle.ov_specs.specs.machine.Suiting.{IsWholeState}
use Rattle.ov_specs.specs.operations.Errors.{OpError}
use Rattle.ov_specs.specs.operations.Operation.{outcome_of}
use Rattle.ov_specs.specs.operations.OpOutcome.{Owns, OpContext, OpOutcome, Done, Fault, Blocked}
use Rattle.ov_specs.specs.operations.Transaction.{TransactionOutcome, Completes, Waits, and_result, after, ended, performed, op_context, transaction}
use Rattle.ov_specs.specs.rows.Database.{Database}
use Rattle.ov_specs.specs.schema.Schema.{IsAccepted}
use Rattle.ov_specs.specs.schema.SchemaTypes.{Schema}
use Rattle.ov_specs.specs.values.Uuid.{Uuid}
use Rattle.ov_specs.proofs.laws.Committing.{committed_whole}
use Rattle.ov_specs.proofs.laws.MixedPairs.{accepted_is_not_mixed}
use Rattle.ov_specs.proofs.laws.Settling.{all-any}
use Rattle.ov_specs.proofs.laws.StepKeeping.{Holds, IsKept, opening_holds, step_holds, run_holds}

-- ---- transactions

-- the database that a transaction leaves, if it completes, is whole
abbrev pub WholeTransaction : Schema → TransactionOutcome → Type 0
WholeTransaction schema (Completes results database) = is_whole schema database ≡ true
WholeTransaction schema (Waits timeout) = Unit {0}

result_whole : (schema : Schema) (result : Data) (t : TransactionOutcome) → WholeTransaction schema t → WholeTransaction schema (and_result result t)
result_whole schema result (Completes results database) whole = whole
result_whole schema result (Waits timeout) whole = tt

after_whole : (schema : Schema) (before : Database) → is_whole schema before ≡ true → (outcome : OpOutcome) (operations : Items) (go : Database → TransactionOutcome) → ((rows : Database) → WholeTransaction schema (go rows))
    → WholeTransaction schema (after before outcome operations go)
after_whole schema before whole (Done result rows) operations go next = result_whole schema result (go rows) (next rows)
after_whole schema before whole (Fault error) operations go next = whole
after_whole schema before whole (Blocked timeout) operations go next = tt

module _ (c : OpContext) (accepted : IsAccepted c.schema) (whole : is_whole c.schema c.before ≡ true) where
  ended_whole : (rows : Database) (r : Result Database OpError) → committed c.schema c.before c.version rows ≡ r → WholeTransaction c.schema (ended c.before r)
  ended_whole rows (Ok database) is = committed_whole c.schema c.before c.version rows database (accepted_is_not_mixed c.schema.tree c.schema accepted.is) is
  ended_whole rows (Err error) is = whole

  performed_whole : (place : ℕ) (operations : Items) (rows : Database) → WholeTransaction c.schema (performed c place operations rows)
  performed_whole place no_items rows = ended_whole rows (committed c.schema c.before c.version rows) refl
  performed_whole place (item d operations) rows =
      after_whole c.schema c.before whole (outcome_of c place rows d) operations (performed c (place + 1) operations) (λ left. performed_whole (place + 1) operations left)

-- a transaction keeps whole rows whole, whatever was drawn for it
pub transaction_whole : (schema : Schema) (before : Database) (owns : Owns) (draws : List Uuid) (age : ℕ) (operations : Items) → IsAccepted schema → is_whole schema before ≡ true
    → WholeTransaction schema (transaction schema before owns draws age operations)
transaction_whole schema before owns draws age operations accepted whole = performed_whole (op_context schema before owns draws age operations) accepted whole 0 operations before

-- ---- steps and runs

-- the rows are whole, if the schema is accepted
abbrev IsWholeUnder : Schema → Database → Type 0
IsWholeUnder schema database = IsAccepted schema → is_whole schema database ≡ true

of_whole : (s : State) → IsWholeState s → Holds IsWholeUnder (λ draws. true) s
of_whole s whole = record { committed = λ accepted. whole.committed; sealed = λ database is accepted. whole.sealed database is; drawn = all-any s.outstanding }

to_whole : (s : State) → IsAccepted s.schema → Holds IsWholeUnder (λ draws. true) s → IsWholeState s
to_whole s accepted holds = record { committed = holds.committed accepted; sealed = λ database is. holds.sealed database is accepted }

whole_kept : IsKept IsWholeUnder (λ draws. true)
whole_kept schema before database owns draws age operations results are whole completes accepted =
    subst (WholeTransaction schema) completes (transaction_whole schema before owns draws age operations accepted (whole accepted))

-- a step keeps the schema, and the rows whole
pub step_whole : (s : State) (e : Entry) (t : Stepped) → step s e ≡ Some t → IsAccepted s.schema → IsWholeState s → (t.state.schema ≡ s.schema) × IsWholeState t.state
step_whole s e t h accepted whole =
    let stays = step_holds IsWholeUnder (λ draws. true) whole_kept s e t h refl (of_whole s whole) in
    (stays.0, to_whole t.state (subst IsAccepted (sym stays.0) accepted) stays.1)

-- a run keeps the schema, and the rows whole
pub run_whole : (s : State) (history : List Entry) (t : Stepped) → run s history ≡ Some t → IsAccepted s.schema → IsWholeState s → (t.state.schema ≡ s.schema) × IsWholeState t.state
run_whole s history t h accepted whole =
    let stays = run_holds IsWholeUnder (λ draws. true) whole_kept s history t h (all-any history) (of_whole s whole) in
    (stays.0, to_whole t.state (subst IsAccepted (sym stays.0) accepted) stays.1)

pub opening_whole : (schema : Schema) (database : Database) → is_whole schema database ≡ true → IsWholeState (opening schema database)
opening_whole schema database whole = record { committed = whole; sealed = (opening_holds (λ x d. is_whole x d ≡ true) (λ draws. true) schema database whole).sealed }
