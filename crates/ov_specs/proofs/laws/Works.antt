-- What the work on a message and a try of a waiting transaction come to, case by case: what holds of each case holds of it.
use Rattle.std.proofs.Common.{◌≡◌, ℕ, ◌-◌, List, [], ◌∷◌, Bool, true, false, cond, ◌++◌, Option, Some, None, length, eqb, leb, refl, subst}
use Rattle.std.specs.Prelude.{codes, is_some}
use Rattle.std.proofs.lemmas.Option.{same_Some}
use Rattle.serde_json.specs.Data.{Data, Items}
use Rattle.ov_specs.specs.locks.Queues.{LockCall, owns}
use Rattle.ov_specs.specs.machine.Machine.{State, Outcome, NoMemory, Committed, Exhausted, Failed, Stepped, Outstanding, Work, Answers, Transact, Cancels, Locks, Watches, works, does, draws_for, arrived, attempt, tries_again, is_kept, commits, sends_at_once, closed, locks, without_request, when, to_session, results_of, results_to, updates_sent, with_monitors, waits_on}
use Rattle.ov_specs.specs.monitors.Monitors.{Monitor}
use Rattle.ov_specs.specs.operations.Transaction.{TransactionOutcome, Completes, Waits, transaction, exhausted_results, failed_results}
use Rattle.ov_specs.specs.rows.Database.{Database, same_database}
use Rattle.ov_specs.specs.values.Uuid.{Uuid}
use Rattle.ov_specs.specs.wire.Frame.{reply_tree, failure_tree}

-- a choice that suits
pub when_is : {A : Type 0} (b : Bool) (o : Option A) (x : A) → when b o ≡ Some x → o ≡ Some x
when_is true o x h = h
when_is false o x h = cc

pub when_suits : {A : Type 0} (b : Bool) (o : Option A) (x : A) → when b o ≡ Some x → b ≡ true
when_suits true o x h = refl
when_suits false o x h = cc

-- a session is sent these trees, and nothing else is changed
abbrev pub sending : State → ℕ → List Data → Stepped
sending s n trees = record { state = s; sent = to_session n trees }

-- the store keeps the database
abbrev pub keeping : State → ℕ → Data → Items → Database → Stepped
keeping s n id results database = record { state = record s { database = database }; sent = updates_sent s.database database s.sessions ++ results_to n id results }

-- the store fails
abbrev pub sealing : State → ℕ → Data → Items → Database → Stepped
sealing s n id results database = record { state = record s { sealed = Some database }; sent = results_to n id (failed_results results) }

-- a transaction is blocked
abbrev pub blocked : State → Outstanding → Option ℕ → Stepped
blocked s o timeout = record { state = waits_on s o timeout; sent = [] }

-- one that waits is canceled
abbrev pub canceling : State → ℕ → Data → Stepped
canceling s n id = record { state = without_request n id s; sent = to_session n (failure_tree id (codes "canceled") ∷ []) }

-- the session has other monitors
abbrev pub watching : State → ℕ → Data → Data → List Monitor → Stepped
watching s n id result monitors = record { state = with_monitors n monitors s; sent = to_session n (reply_tree id result ∷ []) }

-- these are sent at once
sent_at_once : (P : Stepped → Type 0) (t : Stepped) → P t → (o : Option Outcome) (u : Stepped) → sends_at_once t.state t.sent o ≡ Some u → P u
sent_at_once P t p None u h = subst P (same_Some t u h) p
sent_at_once P t p (Some outcome) u h = cc

-- It holds in each case of a transaction that comes to this, where what holds may tell whether the store kept a database.
pub record OfOutcome (P : Bool → Stepped → Type 0) (s : State) (o : Outstanding) (r : TransactionOutcome) : Type 0 where
  pub sends : (trees : List Data) → P false (sending s o.session trees)
  pub commits : (results : Items) (database : Database) → r ≡ Completes results database → P true (keeping s o.session o.id results database) × P false (sealing s o.session o.id results database)
  pub waits : (timeout : Option ℕ) → r ≡ Waits timeout → P false (blocked s o timeout)

module _ (P : Bool → Stepped → Type 0) (s : State) where
  module _ (n : ℕ) (id : Data) (results : Items) (database : Database) (sends : (trees : List Data) → P false (sending s n trees)) where
    at_once : (trees : List Data) (o : Option Outcome) (t : Stepped) → sends_at_once s (to_session n trees) o ≡ Some t → P (is_kept o) t
    at_once trees None t h = sent_at_once (P false) (sending s n trees) (sends trees) None t h
    at_once trees (Some outcome) t h = cc

    module _ (kept : P true (keeping s n id results database)) (failed : P false (sealing s n id results database)) where
      commit : (o : Option Outcome) (t : Stepped) → commits s n id results database o ≡ Some t → P (is_kept o) t
      commit (Some Committed) t h = subst (P true) (same_Some (keeping s n id results database) t h) kept
      commit (Some Exhausted) t h = subst (P false) (same_Some (sending s n (results_of id (exhausted_results results))) t h) (sends (results_of id (exhausted_results results)))
      commit (Some Failed) t h = subst (P false) (same_Some (sealing s n id results database) t h) failed
      commit (Some NoMemory) t h = cc
      commit None t h = cc

      complete : (same sealed : Bool) (o : Option Outcome) (t : Stepped)
          → cond same (sends_at_once s (results_to n id results) o) (cond sealed (sends_at_once s (results_to n id (failed_results results)) o) (commits s n id results database o)) ≡ Some t → P (is_kept o) t
      complete true sealed o t h = at_once (results_of id results) o t h
      complete false true o t h = at_once (results_of id (failed_results results)) o t h
      complete false false o t h = commit o t h

  -- nothing is asked of the store, and nothing is kept
  waited : (o : Outstanding) (timeout : Option ℕ) → P false (blocked s o timeout) → (outcome : Option Outcome) (t : Stepped) → attempt s o (Waits timeout) outcome ≡ Some t → P (is_kept outcome) t
  waited o timeout p None t h = sent_at_once (P false) (blocked s o timeout) p None t h
  waited o timeout p (Some outcome) t h = cc

  -- what comes of a transaction
  pub attempt_has : (o : Outstanding) (r : TransactionOutcome) (outcome : Option Outcome) (t : Stepped) → OfOutcome P s o r → attempt s o r outcome ≡ Some t → P (is_kept outcome) t
  attempt_has o (Completes results database) outcome t of h =
      let both = of.commits results database refl in
      complete o.session o.id results database of.sends both.0 both.1 (same_database s.database database) (is_some s.sealed) outcome t h
  attempt_has o (Waits timeout) outcome t of h = waited o timeout (of.waits timeout refl) outcome t h

  -- what a try of a transaction that waits comes to
  pub try_has : (o : Outstanding) (outcome : Option Outcome) (t : Stepped) → P false (closed s o.session) → OfOutcome P s o (transaction s.schema s.database (owns s.queues o.session) o.draws (s.moment - o.arrival) o.operations) → tries_again s o outcome ≡ Some t → P (is_kept outcome) t
  try_has o (Some NoMemory) t closes of h = subst (P false) (same_Some (closed s o.session) t h) closes
  try_has o outcome t closes of h = attempt_has o (transaction s.schema s.database (owns s.queues o.session) o.draws (s.moment - o.arrival) o.operations) outcome t of h

-- it holds in each case of this work
pub record OfWork (P : Bool → Stepped → Type 0) (s : State) (n : ℕ) (draws : List Uuid) (w : Work) : Type 0 where
  pub closes : P false (closed s n)
  pub sends : (trees : List Data) → P false (sending s n trees)
  pub transacts : (id : Data) (operations : Items) → w ≡ Transact id operations → OfOutcome P s (arrived s n id draws operations) (transaction s.schema s.database (owns s.queues n) draws 0 operations)
  pub cancels : (id : Data) → w ≡ Cancels id → P false (canceling s n id)
  pub locks : (call : LockCall) (id : Data) (name : List ℕ) → w ≡ Locks call id name → P false (locks s n call id name)
  pub watches : (id result : Data) (monitors : List Monitor) → w ≡ Watches id result monitors → P false (watching s n id result monitors)

module _ (P : Bool → Stepped → Type 0) (s : State) (n : ℕ) where
  answered_has : (trees : List Data) (o : Option Outcome) (t : Stepped) → P false (sending s n trees) → sends_at_once s (to_session n trees) o ≡ Some t → P (is_kept o) t
  answered_has trees None t p h = sent_at_once (P false) (sending s n trees) p None t h
  answered_has trees (Some outcome) t p h = cc

  canceled_has : (id : Data) (o : Option Outcome) (t : Stepped) → P false (canceling s n id) → sends_at_once (without_request n id s) (to_session n (failure_tree id (codes "canceled") ∷ [])) o ≡ Some t → P (is_kept o) t
  canceled_has id None t p h = sent_at_once (P false) (canceling s n id) p None t h
  canceled_has id (Some outcome) t p h = cc

  locked_has : (call : LockCall) (id : Data) (name : List ℕ) (o : Option Outcome) (t : Stepped) → P false (locks s n call id name) → sends_at_once (locks s n call id name).state (locks s n call id name).sent o ≡ Some t → P (is_kept o) t
  locked_has call id name None t p h = sent_at_once (P false) (locks s n call id name) p None t h
  locked_has call id name (Some outcome) t p h = cc

  watched_has : (id result : Data) (monitors : List Monitor) (o : Option Outcome) (t : Stepped) → P false (watching s n id result monitors) → sends_at_once (with_monitors n monitors s) (to_session n (reply_tree id result ∷ [])) o ≡ Some t → P (is_kept o) t
  watched_has id result monitors None t p h = sent_at_once (P false) (watching s n id result monitors) p None t h
  watched_has id result monitors (Some outcome) t p h = cc

  done_has : (draws : List Uuid) (o : Option Outcome) (w : Work) (t : Stepped) → OfWork P s n draws w → does s n draws o w ≡ Some t → P (is_kept o) t
  done_has draws o (Answers trees) t of h = answered_has trees o t (of.sends trees) h
  done_has draws o (Transact id operations) t of h = attempt_has P s (arrived s n id draws operations) (transaction s.schema s.database (owns s.queues n) draws 0 operations) o t (of.transacts id operations refl) h
  done_has draws o (Cancels id) t of h = canceled_has id o t (of.cancels id refl) h
  done_has draws o (Locks call id name) t of h = locked_has call id name o t (of.locks call id name refl) h
  done_has draws o (Watches id result monitors) t of h = watched_has id result monitors o t (of.watches id result monitors refl) h

  -- what the work on a message comes to
  pub work_has : (draws : List Uuid) (o : Option Outcome) (w : Work) (t : Stepped) → OfWork P s n draws w → works s n draws o w ≡ Some t → P (is_kept o) t
  work_has draws (Some NoMemory) w t of h = subst (P false) (same_Some (closed s n) t (when_is (leb (length draws) (draws_for w)) (Some (closed s n)) t h)) of.closes
  work_has draws o w t of h = done_has draws o w t of (when_is (eqb (length draws) (draws_for w)) (does s n draws o w) t h)
