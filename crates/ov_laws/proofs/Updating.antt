-- Monitors receive a change before the reply of the transaction that made it.
use Rattle.std.proofs.Common.{◌≡◌, ◌≢◌, ℕ, ◌-◌, List, [], Bool, true, false, cond, eqb, length, Option, Some, None, inl, inr, refl, subst}
use Rattle.std.specs.Prelude.{is_some}
use Rattle.std.proofs.lemmas.Option.{same_Some}
use Rattle.serde_json.specs.Data.{Data, Items}
use Rattle.ov_specs.specs.locks.Queues.{owns}
use Rattle.ov_specs.specs.machine.Machine.{State, Outcome, Committed, Exhausted, Failed, NoMemory, Outstanding, Stepped, Transact, works, does, draws_for, arrived, attempt, tries_again, is_kept, commits, sends_at_once, results_to, waits_on}
use Rattle.ov_specs.specs.operations.Transaction.{TransactionOutcome, Completes, Waits, transaction, exhausted_results, failed_results}
use Rattle.ov_specs.specs.rows.Database.{Database, same_database}
use Rattle.ov_specs.specs.values.Uuid.{Uuid}
use Rattle.ov_laws.specs.Updating.{SendsUpdatesFirst, SendsAtMostReply}
use Rattle.ov_specs.proofs.laws.Works.{keeping, sealing, blocked, when_is}

module _ (s : State) (o : Outstanding) where
  abbrev pub TellsFirst : Stepped → Type 0
  TellsFirst t = SendsUpdatesFirst s o.session o.id t

  abbrev pub TellsNothing : Stepped → Type 0
  TellsNothing t = SendsAtMostReply o.session o.id t

  -- ---- if it is kept

  completes_first : (t : Stepped) (results : Items) (database : Database) (same sealed : Bool)
      → cond same (sends_at_once s (results_to o.session o.id results) (Some Committed)) (cond sealed (sends_at_once s (results_to o.session o.id (failed_results results)) (Some Committed)) (commits s o.session o.id results database (Some Committed))) ≡ Some t
      → TellsFirst t
  completes_first t results database true sealed h = cc
  completes_first t results database false true h = cc
  completes_first t results database false false h = subst TellsFirst (same_Some (keeping s o.session o.id results database) t h) (results, refl)

  attempt_first : (t : Stepped) (r : TransactionOutcome) → attempt s o r (Some Committed) ≡ Some t → TellsFirst t
  attempt_first t (Completes results database) h = completes_first t results database (same_database s.database database) (is_some s.sealed) h
  attempt_first t (Waits timeout) h = cc

  -- ---- if it is not

  reply_alone : (t : Stepped) (results : Items) (outcome : Option Outcome) → sends_at_once s (results_to o.session o.id results) outcome ≡ Some t → TellsNothing t
  reply_alone t results None h = subst TellsNothing (same_Some (record { state = s; sent = results_to o.session o.id results }) t h) (inr (results, refl))
  reply_alone t results (Some outcome) h = cc

  commit_alone : (t : Stepped) (results : Items) (database : Database) (outcome : Option Outcome) → is_kept outcome ≡ false → commits s o.session o.id results database outcome ≡ Some t → TellsNothing t
  commit_alone t results database (Some Committed) kept h = cc
  commit_alone t results database (Some Exhausted) kept h =
      subst TellsNothing (same_Some (record { state = s; sent = results_to o.session o.id (exhausted_results results) }) t h) (inr (exhausted_results results, refl))
  commit_alone t results database (Some Failed) kept h = subst TellsNothing (same_Some (sealing s o.session o.id results database) t h) (inr (failed_results results, refl))
  commit_alone t results database (Some NoMemory) kept h = cc
  commit_alone t results database None kept h = cc

  completes_alone : (t : Stepped) (results : Items) (database : Database) (outcome : Option Outcome) (same sealed : Bool) → is_kept outcome ≡ false
      → cond same (sends_at_once s (results_to o.session o.id results) outcome) (cond sealed (sends_at_once s (results_to o.session o.id (failed_results results)) outcome) (commits s o.session o.id results database outcome)) ≡ Some t
      → TellsNothing t
  completes_alone t results database outcome true sealed kept h = reply_alone t results outcome h
  completes_alone t results database outcome false true kept h = reply_alone t (failed_results results) outcome h
  completes_alone t results database outcome false false kept h = commit_alone t results database outcome kept h

  waits_alone : (t : Stepped) (timeout : Option ℕ) (outcome : Option Outcome) → sends_at_once (waits_on s o timeout) [] outcome ≡ Some t → TellsNothing t
  waits_alone t timeout None h = subst TellsNothing (same_Some (blocked s o timeout) t h) (inl refl)
  waits_alone t timeout (Some outcome) h = cc

  attempt_alone : (t : Stepped) (r : TransactionOutcome) (outcome : Option Outcome) → is_kept outcome ≡ false → attempt s o r outcome ≡ Some t → TellsNothing t
  attempt_alone t (Completes results database) outcome kept h = completes_alone t results database outcome (same_database s.database database) (is_some s.sealed) kept h
  attempt_alone t (Waits timeout) outcome kept h = waits_alone t timeout outcome h

-- ---- as it arrives, and at each later try

module _ (s : State) (n : ℕ) (draws : List Uuid) (id : Data) (operations : Items) (t : Stepped) where
  abbrev o : Outstanding
  o = arrived s n id draws operations

  abbrev its : TransactionOutcome
  its = transaction s.schema s.database (owns s.queues n) draws 0 operations

  done : (outcome : Option Outcome) → cond (eqb (length draws) (draws_for (Transact id operations))) (does s n draws outcome (Transact id operations)) None ≡ Some t → attempt s o its outcome ≡ Some t
  done outcome h = when_is (eqb (length draws) (draws_for (Transact id operations))) (does s n draws outcome (Transact id operations)) t h

  pub works_first : works s n draws (Some Committed) (Transact id operations) ≡ Some t → TellsFirst s o t
  works_first h = attempt_first s o t its (done (Some Committed) h)

  pub works_alone : (outcome : Option Outcome) → works s n draws outcome (Transact id operations) ≡ Some t → is_kept outcome ≡ false → outcome ≢ Some NoMemory → TellsNothing s o t
  works_alone (Some NoMemory) h kept memory = absurd (memory refl)
  works_alone outcome h kept memory = attempt_alone s o t its outcome kept (done outcome h)

module _ (s : State) (o : Outstanding) (t : Stepped) where
  abbrev tried : TransactionOutcome
  tried = transaction s.schema s.database (owns s.queues o.session) o.draws (s.moment - o.arrival) o.operations

  pub tries_first : tries_again s o (Some Committed) ≡ Some t → TellsFirst s o t
  tries_first h = attempt_first s o t tried h

  pub tries_alone : (outcome : Option Outcome) → tries_again s o outcome ≡ Some t → is_kept outcome ≡ false → outcome ≢ Some NoMemory → TellsNothing s o t
  tries_alone (Some NoMemory) h kept memory = absurd (memory refl)
  tries_alone outcome h kept memory = attempt_alone s o t tried outcome kept h
