-- An "assert" passes only for the owner of the lock.
use Rattle.std.proofs.Common.{◌≡◌, ℕ, zero, suc, ◌+◌, ◌-◌, List, [], ◌++◌, Bool, true, false, cond, eqb, leb, length, Option, Some, None, refl, sym, ap, subst, ◌∙◌}
use Rattle.std.specs.Prelude.{is_some}
use Rattle.std.proofs.lemmas.Option.{same_Some}
use Rattle.serde_json.specs.Data.{Data, Items, no_items, item}
use Rattle.ov_specs.specs.locks.Queues.{owner, owns, freed}
use Rattle.ov_specs.specs.machine.Machine.{State, Outcome, Committed, Exhausted, Failed, NoMemory, Outstanding, Sent, Stepped, Transact, works, does, draws_for, arrived, attempt, tries_again, commits, sends_at_once, closed, results_to, updates_sent, waits_on}
use Rattle.ov_specs.specs.operations.Errors.{OpError, NotOwner, ResourcesExhausted, InputOutput, error_tree}
use Rattle.ov_specs.specs.operations.Operation.{outcome_of}
use Rattle.ov_specs.specs.operations.OpOutcome.{Owns, OpContext, OpOutcome, Done, Fault, Blocked, empty_result}
use Rattle.ov_specs.specs.operations.Transaction.{TransactionOutcome, Completes, Waits, and_result, nulls, after, performed, op_context, transaction, and_item, exhausted_results, failed_results}
use Rattle.ov_specs.specs.rows.Database.{Database, same_database}
use Rattle.ov_specs.specs.schema.SchemaTypes.{Schema}
use Rattle.ov_specs.specs.values.Uuid.{Uuid}
use Rattle.ov_specs.proofs.laws.Locks.{owns-owner}
use Rattle.ov_specs.proofs.laws.Works.{when_is}
use Rattle.ov_laws.specs.Asserting.{item_at, Asserts}
use Rattle.ov_laws.proofs.Replies.{last_results, last-append, same_results, notifications_tell_no_results}

-- ---- a transaction

-- the result at this place is {}
abbrev Passes : ℕ → Items → Type 0
Passes place results = item_at place results ≡ Some empty_result

-- no operation passes among those that are null
nulls_pass_not : (place : ℕ) (operations : Items) → Passes place (nulls operations) → ⊥
nulls_pass_not place no_items h = cc
nulls_pass_not zero (item d operations) h = cc
nulls_pass_not (suc place) (item d operations) h = nulls_pass_not place operations h

module _ (c : OpContext) (name : List ℕ) where
  -- the lock is owned, or the operation fails
  assert_is : (place : ℕ) (rows : Database) (d : Data) → Asserts name d → outcome_of c place rows d ≡ cond (c.owns name) (Done empty_result rows) (Fault NotOwner)
  assert_is place rows d is = rw is.op (rw is.lock refl)

  first_passes : (before : Database) (rows : Database) (operations results : Items) (database : Database) (go : Database → TransactionOutcome) (own : Bool)
      → after before (cond own (Done empty_result rows) (Fault NotOwner)) operations go ≡ Completes results database → Passes 0 results → own ≡ true
  first_passes before rows operations results database go true h passes = refl
  first_passes before rows operations results database go false h passes = absurd (no (subst (λ (t : TransactionOutcome). First t) (sym h) passes))
    where
      First : TransactionOutcome → Type 0
      First (Completes rs db) = Passes 0 rs
      First (Waits timeout) = ⊥

      no : Passes 0 (item (error_tree NotOwner) (nulls operations)) → ⊥
      no e = cc

  -- what a transaction that goes on has at a later place, its rest has before
  rest_completes : (result : Data) (t : TransactionOutcome) (results : Items) (database : Database) → and_result result t ≡ Completes results database
      → (rest : Items) × (t ≡ Completes rest database) × (item result rest ≡ results)
  rest_completes result (Completes rest db) results database h = (rest, ap (λ d. Completes rest d) (ap database_of h), ap results_of_it h)
    where
      database_of : TransactionOutcome → Database
      database_of (Completes rs d) = d
      database_of (Waits timeout) = db

      results_of_it : TransactionOutcome → Items
      results_of_it (Completes rs d) = rs
      results_of_it (Waits timeout) = no_items
  rest_completes result (Waits timeout) results database h = cc

  performed_passes : (place : ℕ) (operations : Items) (rows : Database) (results : Items) (database : Database) (k : ℕ) (d : Data)
      → performed c place operations rows ≡ Completes results database → item_at k operations ≡ Some d → Asserts name d → Passes k results → c.owns name ≡ true
  performed_passes place no_items rows results database k d h at is passes = cc
  performed_passes place (item first operations) rows results database zero d h at is passes =
      let its : Asserts name first = subst (Asserts name) (sym (same_Some first d at)) is in
      first_passes c.before rows operations results database (performed c (place + 1) operations) (c.owns name) (ap (λ o. after c.before o operations (performed c (place + 1) operations)) (sym (assert_is place rows first its)) ∙ h) passes
  performed_passes place (item first operations) rows results database (suc k) d h at is passes = by (outcome_of c place rows first) h (λ left rest goes own. performed_passes (place + 1) operations left rest database k d goes at is own)
    where
      Later : TransactionOutcome → Type 0
      Later (Completes rs db) = Passes (suc k) rs
      Later (Waits timeout) = ⊥

      by : (o : OpOutcome) → after c.before o operations (performed c (place + 1) operations) ≡ Completes results database
          → ((left : Database) (rest : Items) → performed c (place + 1) operations left ≡ Completes rest database → Passes k rest → c.owns name ≡ true) → c.owns name ≡ true
      by (Done result left) goes later =
          let (rest, is_rest, same) = rest_completes result (performed c (place + 1) operations left) results database goes in
          later left rest is_rest (ap (item_at (suc k)) same ∙ passes)
      by (Fault error) goes later = absurd (nulls_pass_not k operations (subst Later (sym goes) passes))
      by (Blocked timeout) goes later = cc

-- if an "assert" has passed, the lock is owned
transaction_passes : (schema : Schema) (before : Database) (owns : Owns) (draws : List Uuid) (age : ℕ) (operations results : Items) (database : Database) (place : ℕ) (d : Data) (name : List ℕ)
    → transaction schema before owns draws age operations ≡ Completes results database → item_at place operations ≡ Some d → Asserts name d → Passes place results → owns name ≡ true
transaction_passes schema before owns draws age operations results database place d name h at is passes =
    performed_passes (op_context schema before owns draws age operations) name 0 operations before results database place d h at is passes

-- ---- an attempt

-- what passes among results followed by an error passes among those results
passes_before_error : (place : ℕ) (results : Items) (error : OpError) → Passes place (and_item results (error_tree error)) → Passes place results
passes_before_error zero no_items error h = cc
passes_before_error (suc place) no_items error h = cc
passes_before_error zero (item d results) error h = h
passes_before_error (suc place) (item d results) error h = passes_before_error place results error h

-- the transaction completes, and what passes in the reply passes in its results
abbrev Replies : ℕ → TransactionOutcome → Items → Type 0
Replies place r results = (own : Items) × (database : Database) × (r ≡ Completes own database) × (Passes place results → Passes place own)

module _ (s : State) (o : Outstanding) (place : ℕ) (before : List Sent) (results : Items) where
  -- what is sent ends with the reply
  abbrev Ends : Stepped → Type 0
  Ends t = t.sent ≡ before ++ results_to o.session o.id results

  silent : (t : Stepped) → last_results t.sent ≡ None → Ends t → ⊥
  silent t none ends = no (sym none ∙ (ap last_results ends ∙ last-append before o.session o.id results))
    where
      no : None ≡ Some results → ⊥
      no e = cc

  ends_with : (t : Stepped) (more : List Sent) (sent : Items) → t.sent ≡ more ++ results_to o.session o.id sent → Ends t → sent ≡ results
  ends_with t more sent is ends = same_results more before o.session o.session o.id o.id sent results (sym is ∙ ends)

  at_once : (t : Stepped) (own sent : Items) (database : Database) → (Passes place sent → Passes place own) → (outcome : Option Outcome) → sends_at_once s (results_to o.session o.id sent) outcome ≡ Some t → Ends t
      → Replies place (Completes own database) results
  at_once t own sent database so None h ends =
      let same : sent ≡ results = ends_with t [] sent (ap (λ (v : Stepped). v.sent) (sym (same_Some (record { state = s; sent = results_to o.session o.id sent }) t h))) ends in
      (own, database, refl, λ passes. so (ap (item_at place) same ∙ passes))
  at_once t own sent database so (Some outcome) h ends = cc

  stored : (t : Stepped) (own : Items) (database : Database) (outcome : Option Outcome) → commits s o.session o.id own database outcome ≡ Some t → Ends t → Replies place (Completes own database) results
  stored t own database (Some Committed) h ends =
      let same : own ≡ results = ends_with t (updates_sent s.database database s.sessions) own (ap (λ (v : Stepped). v.sent) (sym (same_Some _ t h))) ends in
      (own, database, refl, λ passes. ap (item_at place) same ∙ passes)
  stored t own database (Some Exhausted) h ends =
      let same : exhausted_results own ≡ results = ends_with t [] (exhausted_results own) (ap (λ (v : Stepped). v.sent) (sym (same_Some _ t h))) ends in
      (own, database, refl, λ passes. passes_before_error place own ResourcesExhausted (ap (item_at place) same ∙ passes))
  stored t own database (Some Failed) h ends =
      let same : failed_results own ≡ results = ends_with t [] (failed_results own) (ap (λ (v : Stepped). v.sent) (sym (same_Some _ t h))) ends in
      (own, database, refl, λ passes. passes_before_error place own InputOutput (ap (item_at place) same ∙ passes))
  stored t own database (Some NoMemory) h ends = cc
  stored t own database None h ends = cc

  completed : (t : Stepped) (own : Items) (database : Database) (outcome : Option Outcome) (same sealed : Bool)
      → cond same (sends_at_once s (results_to o.session o.id own) outcome) (cond sealed (sends_at_once s (results_to o.session o.id (failed_results own)) outcome) (commits s o.session o.id own database outcome)) ≡ Some t
      → Ends t → Replies place (Completes own database) results
  completed t own database outcome true sealed h ends = at_once t own own database (λ passes. passes) outcome h ends
  completed t own database outcome false true h ends = at_once t own (failed_results own) database (passes_before_error place own InputOutput) outcome h ends
  completed t own database outcome false false h ends = stored t own database outcome h ends

  waited : (t : Stepped) (timeout : Option ℕ) (outcome : Option Outcome) → sends_at_once (waits_on s o timeout) [] outcome ≡ Some t → Ends t → ⊥
  waited t timeout None h ends = silent t (ap (λ (v : Stepped). last_results v.sent) (sym (same_Some (record { state = waits_on s o timeout; sent = [] }) t h))) ends
  waited t timeout (Some outcome) h ends = cc

  attempted : (t : Stepped) (r : TransactionOutcome) (outcome : Option Outcome) → attempt s o r outcome ≡ Some t → Ends t → Replies place r results
  attempted t (Completes own database) outcome h ends = completed t own database outcome (same_database s.database database) (is_some s.sealed) h ends
  attempted t (Waits timeout) outcome h ends = absurd (waited t timeout outcome h ends)

  -- a session that is closed is sent no reply
  closing : (t : Stepped) → closed s o.session ≡ t → Ends t → ⊥
  closing t is ends = silent t (ap (λ (v : Stepped). last_results v.sent) (sym is) ∙ notifications_tell_no_results (freed o.session s.queues)) ends

  module _ (age : ℕ) (d : Data) (name : List ℕ) (at : item_at place o.operations ≡ Some d) (is : Asserts name d) (passes : Passes place results) where
    owned : Replies place (transaction s.schema s.database (owns s.queues o.session) o.draws age o.operations) results → owner name s.queues ≡ Some o.session
    owned (own, database, completes, so) =
        owns-owner name s.queues o.session (transaction_passes s.schema s.database (owns s.queues o.session) o.draws age o.operations own database place d name completes at is (so passes))

    attempt_owned : (t : Stepped) (outcome : Option Outcome) → attempt s o (transaction s.schema s.database (owns s.queues o.session) o.draws age o.operations) outcome ≡ Some t → Ends t → owner name s.queues ≡ Some o.session
    attempt_owned t outcome h ends = owned (attempted t (transaction s.schema s.database (owns s.queues o.session) o.draws age o.operations) outcome h ends)

-- ---- as it arrives, and at each later try

pub works_asserts : (s : State) (n : ℕ) (draws : List Uuid) (outcome : Option Outcome) (id : Data) (operations results : Items) (before : List Sent) (t : Stepped) (place : ℕ) (d : Data) (name : List ℕ)
    → works s n draws outcome (Transact id operations) ≡ Some t → t.sent ≡ before ++ results_to n id results → item_at place operations ≡ Some d → Asserts name d → item_at place results ≡ Some empty_result → owner name s.queues ≡ Some n
works_asserts s n draws (Some NoMemory) id operations results before t place d name h ends at is passes =
    absurd (closing s (arrived s n id draws operations) place before results t (same_Some (closed s n) t (when_is (leb (length draws) (draws_for (Transact id operations))) (Some (closed s n)) t h)) ends)
works_asserts s n draws outcome id operations results before t place d name h ends at is passes =
    attempt_owned s (arrived s n id draws operations) place before results 0 d name at is passes t outcome (when_is (eqb (length draws) (draws_for (Transact id operations))) (does s n draws outcome (Transact id operations)) t h) ends

pub tries_assert : (s : State) (o : Outstanding) (outcome : Option Outcome) (results : Items) (before : List Sent) (t : Stepped) (place : ℕ) (d : Data) (name : List ℕ)
    → tries_again s o outcome ≡ Some t → t.sent ≡ before ++ results_to o.session o.id results → item_at place o.operations ≡ Some d → Asserts name d → item_at place results ≡ Some empty_result → owner name s.queues ≡ Some o.session
tries_assert s o (Some NoMemory) results before t place d name h ends at is passes = absurd (closing s o place before results t (same_Some (closed s o.session) t h) ends)
tries_assert s o outcome results before t place d name h ends at is passes = attempt_owned s o place before results (s.moment - o.arrival) d name at is passes t outcome h ends
