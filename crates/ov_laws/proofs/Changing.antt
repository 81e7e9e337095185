-- The reply without an error to a transaction that changes the database is sent by the attempt whose change is kept.
use Rattle.std.proofs.Common.{◌≡◌, ℕ, ◌-◌, List, [], ◌++◌, true, false, Option, Some, None, refl, sym, ap, ◌∙◌}
use Rattle.std.proofs.lemmas.Bool.{false≢true}
use Rattle.serde_json.specs.Data.{Data, Items}
use Rattle.ov_specs.specs.locks.Queues.{owns, freed}
use Rattle.ov_specs.specs.machine.Machine.{State, Outcome, Committed, NoMemory, Outstanding, Sent, Stepped, Transact, works, arrived, tries_again, closed, results_to}
use Rattle.ov_specs.specs.operations.Errors.{InputOutput}
use Rattle.ov_specs.specs.operations.Transaction.{TransactionOutcome, Completes, Waits, transaction, has_error, failed_results}
use Rattle.ov_specs.specs.rows.Database.{Database, same_database}
use Rattle.ov_specs.specs.values.Uuid.{Uuid}
use Rattle.ov_laws.proofs.Attempts.{OfAttempt, and_item-error, try_is, arrival_is}
use Rattle.ov_laws.proofs.Replies.{last_results, last-append, same_results, notifications_tell_no_results}

module _ (s : State) (o : Outstanding) (own results : Items) (database : Database) (before : List Sent) (fine : has_error results ≡ false) (changes : same_database s.database database ≡ false) where
  -- if the reply is sent, the change is kept
  abbrev Keeps : Option Outcome → Stepped → Type 0
  Keeps outcome x = x.sent ≡ before ++ results_to o.session o.id results → (outcome ≡ Some Committed) × (x.state.database ≡ database)

  -- a reply with an error is another
  no_error : {B : Type 0} (sent : Items) → has_error sent ≡ true → results_to o.session o.id sent ≡ before ++ results_to o.session o.id results → B
  no_error sent error is = absurd (false≢true (sym fine ∙ (ap has_error (sym (same_results [] before o.session o.session o.id o.id sent results is)) ∙ error)))

  -- a session that is closed is sent no reply
  closing : Keeps (Some NoMemory) (closed s o.session)
  closing is = absurd (no (sym (notifications_tell_no_results (freed o.session s.queues)) ∙ (ap last_results is ∙ last-append before o.session o.id results)))
    where
      no : None ≡ Some results → ⊥
      no e = cc

  module _ (r : TransactionOutcome) (completes : r ≡ Completes own database) where
    database_of : TransactionOutcome → Database
    database_of (Completes results' d) = d
    database_of (Waits timeout) = database

    same : (results' : Items) (d : Database) → r ≡ Completes results' d → d ≡ database
    unfolding database_of
    same results' d is = ap database_of (sym is ∙ completes)

    never : {B : Type 0} (timeout : Option ℕ) → r ≡ Waits timeout → B
    never timeout is = absurd (no (sym completes ∙ is))
      where
        no : Completes own database ≡ Waits timeout → ⊥
        no e = cc

    keeps : OfAttempt Keeps s o r
    keeps = record {
      same = λ results' d is unchanged sent. absurd (false≢true (sym changes ∙ (ap (same_database s.database) (sym (same results' d is)) ∙ unchanged)));
      refused = λ results' error. (λ sent. no_error results' error sent, λ sent. no_error results' error sent);
      changed = λ results' d is changed unsealed. (λ sent. (refl, same results' d is), λ sent. no_error (failed_results results') (and_item-error results' InputOutput) sent);
      waits = λ timeout is sent. never timeout is;
    }

-- ---- as it arrives, and at each later try

module _ (s : State) (own results : Items) (database : Database) (before : List Sent) (t : Stepped) (outcome : Option Outcome) (fine : has_error results ≡ false) (changes : same_database s.database database ≡ false) where
  pub works_keeps : (n : ℕ) (draws : List Uuid) (id : Data) (operations : Items) → works s n draws outcome (Transact id operations) ≡ Some t → t.sent ≡ before ++ results_to n id results
      → transaction s.schema s.database (owns s.queues n) draws 0 operations ≡ Completes own database → (outcome ≡ Some Committed) × (t.state.database ≡ database)
  works_keeps n draws id operations h sent completes =
      let o : Outstanding = arrived s n id draws operations in
      arrival_is (Keeps s o own results database before fine changes) s n draws id operations (closing s o own results database before fine changes)
      (keeps s o own results database before fine changes (transaction s.schema s.database (owns s.queues n) draws 0 operations) completes) outcome t h sent

  pub tries_keeps : (o : Outstanding) → tries_again s o outcome ≡ Some t → t.sent ≡ before ++ results_to o.session o.id results
      → transaction s.schema s.database (owns s.queues o.session) o.draws (s.moment - o.arrival) o.operations ≡ Completes own database → (outcome ≡ Some Committed) × (t.state.database ≡ database)
  tries_keeps o h sent completes =
      try_is (Keeps s o own results database before fine changes) s o (closing s o own results database before fine changes)
      (keeps s o own results database before fine changes (transaction s.schema s.database (owns s.queues o.session) o.draws (s.moment - o.arrival) o.operations) completes) outcome t h sent
