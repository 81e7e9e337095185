-- A refused transaction changes nothing.
use Rattle.std.proofs.Common.{◌≡◌, ℕ, ◌-◌, List, ◌++◌, refl, sym, ap, ◌∙◌, true, Option, Some}
use Rattle.std.proofs.lemmas.Bool.{false≢true}
use Rattle.serde_json.specs.Data.{Data, Items}
use Rattle.ov_specs.specs.locks.Queues.{owns}
use Rattle.ov_specs.specs.machine.Machine.{State, Sent, Stepped, Outcome, Outstanding, Transact, works, arrived, tries_again, results_to, updates_sent}
use Rattle.ov_specs.specs.operations.Transaction.{transaction, has_error}
use Rattle.ov_specs.specs.values.Uuid.{Uuid}
use Rattle.ov_laws.proofs.Attempts.{OfAttempt, changed_succeeds, arrival_is, try_is}
use Rattle.ov_laws.proofs.Replies.{same_results}

module _ (s : State) (o : Outstanding) (before : List Sent) (results : Items) (error : has_error results ≡ true) where
  -- if these results are sent at the end, the database is as before
  abbrev Leaves : Option Outcome → Stepped → Type 0
  Leaves outcome x = x.sent ≡ before ++ results_to o.session o.id results → x.state.database ≡ s.database

  -- a change that is kept has no error in its reply
  leaves : (draws : List Uuid) (age : ℕ) (operations : Items) → OfAttempt Leaves s o (transaction s.schema s.database (owns s.queues o.session) draws age operations)
  leaves draws age operations = record {
    same = λ own database is unchanged sent. refl;
    refused = λ own fails. (λ sent. refl, λ sent. refl);
    changed = λ own database is changes unsealed. (
      λ sent. absurd (false≢true
          (sym (changed_succeeds s.schema s.database (owns s.queues o.session) draws age operations own database is changes)
          ∙ (ap has_error (same_results (updates_sent s.database database s.sessions) before o.session o.session o.id o.id own results sent) ∙ error))),
      λ sent. refl,
    );
    waits = λ timeout is sent. refl;
  }

-- a reply with an error among its results leaves the database, as the transaction arrives
pub changes_nothing : (s : State) (n : ℕ) (draws : List Uuid) (outcome : Option Outcome) (id : Data) (operations results : Items) (before : List Sent) (t : Stepped) → works s n draws outcome (Transact id operations) ≡ Some t
    → t.sent ≡ before ++ results_to n id results → has_error results ≡ true → t.state.database ≡ s.database
changes_nothing s n draws outcome id operations results before t h sent error =
    let o : Outstanding = arrived s n id draws operations in
    arrival_is (Leaves s o before results error) s n draws id operations (λ sent. refl) (leaves s o before results error draws 0 operations) outcome t h sent

-- and at each later try
pub try_changes_nothing : (s : State) (o : Outstanding) (outcome : Option Outcome) (results : Items) (before : List Sent) (t : Stepped) → tries_again s o outcome ≡ Some t
    → t.sent ≡ before ++ results_to o.session o.id results → has_error results ≡ true → t.state.database ≡ s.database
try_changes_nothing s o outcome results before t h sent error =
    try_is (Leaves s o before results error) s o (λ sent. refl) (leaves s o before results error o.draws (s.moment - o.arrival) o.operations) outcome t h sent
