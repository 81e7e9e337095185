-- What an attempt of a transaction comes to, case by case, and what each case is known of: what holds in each case holds of it.
use Rattle.std.proofs.Common.{◌≡◌, ◌≢◌, ℕ, ◌-◌, List, [], ◌∷◌, Bool, true, false, cond, ◌&&◌, ◌||◌, length, eqb, leb, codes, Option, Some, None, is_some, refl, sym, ap, subst, ◌∙◌}
use Rattle.std.proofs.lemmas.Bool.{and_from, false≢true}
use Rattle.std.proofs.lemmas.Option.{same_Some}
use Rattle.std.specs.Cmp.{eq_by_cmp_equiv}
use Rattle.std.specs.Cmp.Lexicographic.{nat_list_cmp_total, texts_ties, pointwise}
use Rattle.std.specs.FinMap.{entries}
use Rattle.std.specs.Str.{bytes_eq}
use Rattle.serde_json.specs.Data.{Data, Items, no_items, item}
use Rattle.ov_specs.specs.locks.Queues.{owns}
use Rattle.ov_specs.specs.machine.Machine.{State, Outcome, NoMemory, Committed, Exhausted, Failed, Stepped, Outstanding, Transact, works, does, draws_for, arrived, attempt, tries_again, commits, sends_at_once, closed, results_of, results_to}
use Rattle.ov_specs.specs.operations.Errors.{OpError, ResourcesExhausted, InputOutput, error_tree}
use Rattle.ov_specs.specs.operations.OpOutcome.{Owns}
use Rattle.ov_specs.specs.operations.Transaction.{TransactionOutcome, Completes, Waits, transaction, has_error, and_item, exhausted_results, failed_results}
use Rattle.ov_specs.specs.rows.Database.{Database, Row, same_columns, same_row, same_key, same_database}
use Rattle.ov_specs.specs.rows.Lines.{LineKey}
use Rattle.ov_specs.specs.schema.SchemaTypes.{Schema}
use Rattle.ov_specs.specs.values.Uuid.{Uuid}
use Rattle.ov_specs.specs.wire.Message.{has_member}
use Rattle.ov_specs.proofs.laws.RefusedOutcome.{LeavesIfError, refused_leaves}
use Rattle.ov_specs.proofs.laws.Sameness.{columns-same}
use Rattle.ov_specs.proofs.laws.Truths.{or_truth}
use Rattle.ov_specs.proofs.laws.Works.{sending, keeping, sealing, blocked, when_is}

-- ---- errors among results

-- results that are followed by an error have one
pub and_item-error : (results : Items) (error : OpError) → has_error (and_item results (error_tree error)) ≡ true
and_item-error no_items error = refl
and_item-error (item d results) error = ap (λ b. has_member (codes "error") d || b) (and_item-error results error) ∙ or_truth (has_member (codes "error") d)

-- a database is the same as itself
bytes-same : (bytes : List ℕ) → bytes_eq bytes bytes ≡ true
bytes-same bytes = texts_ties bytes bytes ∙ (eq_by_cmp_equiv nat_list_cmp_total).refl bytes

entry-same : (e : LineKey × Row) → (same_key e.0 e.0 && same_row e.1 e.1) ≡ true
entry-same e = and_from (same_key e.0 e.0) (same_row e.1 e.1)
    (and_from (bytes_eq e.0.0 e.0.0) (bytes_eq e.0.1 e.0.1) (bytes-same e.0.0) (bytes-same e.0.1))
    (and_from (bytes_eq e.1.version e.1.version) (same_columns (entries e.1.columns) (entries e.1.columns)) (bytes-same e.1.version) (columns-same (entries e.1.columns)))

entries-same : (es : List (LineKey × Row)) → pointwise (λ r s. same_key r.0 s.0 && same_row r.1 s.1) es es ≡ true
entries-same [] = refl
entries-same (e ∷ es) = and_from (same_key e.0 e.0 && same_row e.1 e.1) (pointwise (λ r s. same_key r.0 s.0 && same_row r.1 s.1) es es) (entry-same e) (entries-same es)

database-same : (database : Database) → same_database database database ≡ true
database-same database = entries-same (entries database)

-- and a database that differs is another
pub other_database : (before database : Database) → same_database before database ≡ false → before ≢ database
other_database before database differs is = false≢true (sym differs ∙ (ap (same_database before) (sym is) ∙ database-same before))

-- so a transaction that changes something has no error among its results
pub changed_succeeds : (schema : Schema) (before : Database) (owns : Owns) (draws : List Uuid) (age : ℕ) (operations results : Items) (database : Database)
    → transaction schema before owns draws age operations ≡ Completes results database → same_database before database ≡ false → has_error results ≡ false
changed_succeeds schema before owns draws age operations results database completes changes = by (has_error results) refl
  where
    by : (b : Bool) → has_error results ≡ b → has_error results ≡ false
    by true is = absurd (false≢true (sym changes ∙ (ap (same_database before) (subst (LeavesIfError before) completes (refused_leaves schema before owns draws age operations) is) ∙ database-same before)))
    by false is = is

-- ---- an attempt

-- It holds in each case of a transaction that comes to this: nothing changes; the reply has an error; the store is asked, and
-- keeps the change or fails; or the transaction waits. What holds may tell what is listed of the attempt.
pub record OfAttempt (P : Option Outcome → Stepped → Type 0) (s : State) (o : Outstanding) (r : TransactionOutcome) : Type 0 where
  pub same : (results : Items) (database : Database) → r ≡ Completes results database → same_database s.database database ≡ true → P None (sending s o.session (results_of o.id results))
  pub refused : (results : Items) → has_error results ≡ true → P None (sending s o.session (results_of o.id results)) × P (Some Exhausted) (sending s o.session (results_of o.id results))
  pub changed : (results : Items) (database : Database) → r ≡ Completes results database → same_database s.database database ≡ false → s.sealed ≡ None
      → P (Some Committed) (keeping s o.session o.id results database) × P (Some Failed) (sealing s o.session o.id results database)
  pub waits : (timeout : Option ℕ) → r ≡ Waits timeout → P None (blocked s o timeout)

module _ (P : Option Outcome → Stepped → Type 0) (s : State) (o : Outstanding) where
  at_once : (x : Stepped) → P None x → (outcome : Option Outcome) (t : Stepped) → sends_at_once x.state x.sent outcome ≡ Some t → P outcome t
  at_once x p None t h = subst (P None) (same_Some x t h) p
  at_once x p (Some outcome) t h = cc

  unsealed : (sealed : Option Database) → is_some sealed ≡ false → sealed ≡ None
  unsealed None h = refl
  unsealed (Some d) h = cc

  module _ (r : TransactionOutcome) (of : OfAttempt P s o r) where
    refuse : (results : Items) (error : OpError)
        → P None (sending s o.session (results_of o.id (and_item results (error_tree error)))) × P (Some Exhausted) (sending s o.session (results_of o.id (and_item results (error_tree error))))
    refuse results error = of.refused (and_item results (error_tree error)) (and_item-error results error)

    commit : (results : Items) (database : Database) → P (Some Committed) (keeping s o.session o.id results database) × P (Some Failed) (sealing s o.session o.id results database)
        → (outcome : Option Outcome) (t : Stepped) → commits s o.session o.id results database outcome ≡ Some t → P outcome t
    commit results database both (Some Committed) t h = subst (P (Some Committed)) (same_Some (keeping s o.session o.id results database) t h) both.0
    commit results database both (Some Exhausted) t h = subst (P (Some Exhausted)) (same_Some (sending s o.session (results_of o.id (exhausted_results results))) t h) (refuse results ResourcesExhausted).1
    commit results database both (Some Failed) t h = subst (P (Some Failed)) (same_Some (sealing s o.session o.id results database) t h) both.1
    commit results database both (Some NoMemory) t h = cc
    commit results database both None t h = cc

    complete : (results : Items) (database : Database) → r ≡ Completes results database → (same sealed : Bool) → same_database s.database database ≡ same → is_some s.sealed ≡ sealed → (outcome : Option Outcome) (t : Stepped)
        → cond same (sends_at_once s (results_to o.session o.id results) outcome) (cond sealed (sends_at_once s (results_to o.session o.id (failed_results results)) outcome) (commits s o.session o.id results database outcome)) ≡ Some t
        → P outcome t
    complete results database is true sealed same seal outcome t h = at_once (sending s o.session (results_of o.id results)) (of.same results database is same) outcome t h
    complete results database is false true same seal outcome t h = at_once (sending s o.session (results_of o.id (failed_results results))) (refuse results InputOutput).0 outcome t h
    complete results database is false false same seal outcome t h = commit results database (of.changed results database is same (unsealed s.sealed seal)) outcome t h

  pub attempt_is : (r : TransactionOutcome) → OfAttempt P s o r → (outcome : Option Outcome) (t : Stepped) → attempt s o r outcome ≡ Some t → P outcome t
  attempt_is (Completes results database) of outcome t h =
      complete (Completes results database) of results database refl (same_database s.database database) (is_some s.sealed) refl refl outcome t h
  attempt_is (Waits timeout) of outcome t h = at_once (blocked s o timeout) (of.waits timeout refl) outcome t h

  -- a try of a transaction that waits
  pub try_is : P (Some NoMemory) (closed s o.session) → OfAttempt P s o (transaction s.schema s.database (owns s.queues o.session) o.draws (s.moment - o.arrival) o.operations) → (outcome : Option Outcome) (t : Stepped) → tries_again s o outcome ≡ Some t
      → P outcome t
  try_is closes of (Some NoMemory) t h = subst (P (Some NoMemory)) (same_Some (closed s o.session) t h) closes
  try_is closes of outcome t h = attempt_is (transaction s.schema s.database (owns s.queues o.session) o.draws (s.moment - o.arrival) o.operations) of outcome t h

-- a transaction as it arrives
pub arrival_is : (P : Option Outcome → Stepped → Type 0) (s : State) (n : ℕ) (draws : List Uuid) (id : Data) (operations : Items)
    → P (Some NoMemory) (closed s n) → OfAttempt P s (arrived s n id draws operations) (transaction s.schema s.database (owns s.queues n) draws 0 operations)
    → (outcome : Option Outcome) (t : Stepped) → works s n draws outcome (Transact id operations) ≡ Some t → P outcome t
arrival_is P s n draws id operations closes of (Some NoMemory) t h = subst (P (Some NoMemory)) (same_Some (closed s n) t (when_is (leb (length draws) (draws_for (Transact id operations))) (Some (closed s n)) t h)) closes
arrival_is P s n draws id operations closes of outcome t h =
    attempt_is P s (arrived s n id draws operations) (transaction s.schema s.database (owns s.queues n) draws 0 operations) of outcome t
    (when_is (eqb (length draws) (draws_for (Transact id operations))) (does s n draws outcome (Transact id operations)) t h)
