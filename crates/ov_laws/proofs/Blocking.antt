-- A blocked transaction waits, and changes nothing else.
use Rattle.std.proofs.Common.{◌≡◌, ℕ, ◌-◌, List, [], length, eqb, leb, Option, Some, None, refl, subst}
use Rattle.std.proofs.lemmas.Option.{same_Some}
use Rattle.serde_json.specs.Data.{Data, Items}
use Rattle.ov_specs.specs.locks.Queues.{owns}
use Rattle.ov_specs.specs.machine.Machine.{State, Outcome, NoMemory, Outstanding, Stepped, Transact, works, does, draws_for, arrived, attempt, tries_again, closed, sends_at_once, waits_on}
use Rattle.ov_specs.specs.operations.Transaction.{TransactionOutcome, Waits, transaction}
use Rattle.ov_specs.specs.values.Uuid.{Uuid}
use Rattle.ov_specs.proofs.laws.Works.{blocked, when_is}
use Rattle.ov_laws.specs.Blocking.{LeavesBlocked}

module _ (s : State) (o : Outstanding) (timeout : Option ℕ) (t : Stepped) where
  closed_leaves : closed s o.session ≡ t → LeavesBlocked s o timeout (Some NoMemory) t
  closed_leaves is = subst (LeavesBlocked s o timeout (Some NoMemory)) is (record { database = refl; waits = λ memory. absurd (memory refl) })

  waits_leaves : (outcome : Option Outcome) → sends_at_once (waits_on s o timeout) [] outcome ≡ Some t → LeavesBlocked s o timeout outcome t
  waits_leaves None h = subst (LeavesBlocked s o timeout None) (same_Some (blocked s o timeout) t h) (record { database = refl; waits = λ memory. refl })
  waits_leaves (Some outcome) h = cc

  attempt_leaves : (r : TransactionOutcome) (outcome : Option Outcome) → r ≡ Waits timeout → attempt s o r outcome ≡ Some t → LeavesBlocked s o timeout outcome t
  attempt_leaves r outcome is h = waits_leaves outcome (subst (λ v. attempt s o v outcome ≡ Some t) is h)

-- as it arrives
pub arrival_blocked : (s : State) (n : ℕ) (draws : List Uuid) (outcome : Option Outcome) (id : Data) (operations : Items) (timeout : Option ℕ) (t : Stepped) → works s n draws outcome (Transact id operations) ≡ Some t
    → transaction s.schema s.database (owns s.queues n) draws 0 operations ≡ Waits timeout → LeavesBlocked s (arrived s n id draws operations) timeout outcome t
arrival_blocked s n draws (Some NoMemory) id operations timeout t h is =
    closed_leaves s (arrived s n id draws operations) timeout t (same_Some (closed s n) t (when_is (leb (length draws) (draws_for (Transact id operations))) (Some (closed s n)) t h))
arrival_blocked s n draws outcome id operations timeout t h is =
    attempt_leaves s (arrived s n id draws operations) timeout t (transaction s.schema s.database (owns s.queues n) draws 0 operations) outcome is
    (when_is (eqb (length draws) (draws_for (Transact id operations))) (does s n draws outcome (Transact id operations)) t h)

-- and at each later try
pub try_blocked : (s : State) (o : Outstanding) (outcome : Option Outcome) (timeout : Option ℕ) (t : Stepped) → tries_again s o outcome ≡ Some t
    → transaction s.schema s.database (owns s.queues o.session) o.draws (s.moment - o.arrival) o.operations ≡ Waits timeout → LeavesBlocked s o timeout outcome t
try_blocked s o (Some NoMemory) timeout t h is = closed_leaves s o timeout t (same_Some (closed s o.session) t h)
try_blocked s o outcome timeout t h is = attempt_leaves s o timeout t (transaction s.schema s.database (owns s.queues o.session) o.draws (s.moment - o.arrival) o.operations) outcome is h
