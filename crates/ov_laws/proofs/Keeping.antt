-- The databases that are kept, attempt by attempt, entry by entry: each is made of the one before it, and each reply tells of
-- one of them.
use Rattle.std.proofs.Common.{◌≡◌, ℕ, zero, suc, ◌+◌, ◌-◌, List, [], ◌∷◌, ◌++◌, flat_map, length, length-append, Bool, true, false, cond, eqb, Option, Some, None, nat_le, option_map, ◌⊎◌, inl, inr, refl, sym, ap, ap₂, subst, ◌∙◌, append_assoc, arith}
use Rattle.std.specs.Prelude.{not, ◌&&◌}
use Rattle.std.specs.List.{AllByRecursion}
use Rattle.std.proofs.lemmas.Bool.{eqb-true, false≢true}
use Rattle.std.proofs.lemmas.List.{append-nil}
use Rattle.std.proofs.lemmas.Option.{same_Some}
use Rattle.serde_json.specs.Data.{Data, Items}
use Rattle.ov_specs.specs.locks.Queues.{owns, freed}
use Rattle.ov_specs.specs.machine.History.{run}
use Rattle.ov_specs.specs.machine.Machine.{State, Entry, Attempt, Choice, Event, Open, Take, Close, Tick, Outcome, Committed, Failed, Outstanding, locks, Listed, listed, Sent, Stepped, Tried, Passed, passed, passes_after, step, happens, works, takes_and_settles, tries_again, is_kept, pass, settle_within, settle, waits_after, still_waiting, closed, is_open, is_request, is_without_choice, none_drawn, with_next_session, ends, arrived, Work, Transact, work_of, results_to, results_of, updates_sent, tried_in}
use Rattle.ov_specs.specs.operations.Errors.{InputOutput}
use Rattle.ov_specs.specs.operations.Transaction.{TransactionOutcome, Completes, transaction, has_error, failed_results}
use Rattle.ov_specs.specs.rows.Database.{Database, same_database}
use Rattle.ov_specs.specs.schema.SchemaTypes.{Schema}
use Rattle.ov_specs.specs.wire.Message.{Message}
use Rattle.ov_specs.proofs.laws.Histories.{Leads, leads_more, run_parts, run_none}
use Rattle.ov_specs.proofs.laws.Tries.{left_by, sent_by, emptied, pass_first, settle_first, takes_first, tick_first}
use Rattle.ov_specs.proofs.laws.Works.{sending, keeping, sealing, blocked, canceling, watching, when_is, work_has}
use Rattle.ov_laws.specs.Databases.{if_suits, kept_by_passes, kept_by_settling, kept_by_message, kept_by_event, at_moment_of, kept_by, commits_in}
use Rattle.ov_laws.specs.Making.{Arrival, arrival_of, is_transaction, takes_another}
use Rattle.ov_laws.specs.Tries.{Trial, SettlingTries, tries_next, tries_on, tries_anew, EventTries, tries_message, tries_after, tries_waiting}
use Rattle.ov_laws.proofs.Attempts.{OfAttempt, try_is, arrival_is, and_item-error}
use Rattle.ov_laws.proofs.Counting.{commits, is_commit, one_if, commits-append, event-commits}
use Rattle.ov_laws.proofs.Kept.{kept_by_passes-first}
use Rattle.ov_laws.proofs.Paths.{Path, path-append, path-last, after_all, after_all-is, after_all-append, all-append, all-filter, all-so}
use Rattle.ov_laws.proofs.Settling.{Changes, filter-within, opens_none, try_changes, waiting-open}
use Rattle.ov_laws.proofs.Telling.{Tells, freed-tell, updates-tell, reply-tells}

-- ---- what is listed

-- what is listed of an attempt
pub listed-some : (number : ℕ) (attempts : List Attempt) (outcome : Outcome) → (listed number attempts).outcome ≡ Some outcome → attempts ≡ record { number = number; outcome = outcome } ∷ (listed number attempts).others
listed-some number [] outcome h = cc
listed-some number (a ∷ attempts) outcome h = by (eqb a.number number) refl h
  where
    by : (b : Bool) → eqb a.number number ≡ b → (cond {A = Listed} b (record { outcome = Some a.outcome; others = attempts }) (record { outcome = None; others = a ∷ attempts })).outcome ≡ Some outcome
        → a ∷ attempts ≡ record { number = number; outcome = outcome } ∷ (cond {A = Listed} b (record { outcome = Some a.outcome; others = attempts }) (record { outcome = None; others = a ∷ attempts })).others
    by true is k = ap₂ (λ (n : ℕ) (o : Outcome). record { number = n; outcome = o } ∷ attempts) (eqb-true a.number number is) (same_Some a.outcome outcome k)
    by false is k = cc

-- what an attempt takes off the list
listed-parts : (number : ℕ) (attempts : List Attempt) → (own : List Attempt) × (attempts ≡ own ++ (listed number attempts).others) × (commits own ≡ one_if (is_kept (listed number attempts).outcome))
listed-parts number [] = ([], refl, refl)
listed-parts number (a ∷ attempts) = by (eqb a.number number)
  where
    one : (b : Bool) → length (cond b (a ∷ []) []) ≡ one_if b
    one true = refl
    one false = refl

    by : (b : Bool) → (own : List Attempt) × (a ∷ attempts ≡ own ++ (cond {A = Listed} b (record { outcome = Some a.outcome; others = attempts }) (record { outcome = None; others = a ∷ attempts })).others)
        × (commits own ≡ one_if (is_kept (cond {A = Listed} b (record { outcome = Some a.outcome; others = attempts }) (record { outcome = None; others = a ∷ attempts })).outcome))
    by true = (a ∷ [], refl, one (is_commit a))
    by false = ([], refl, refl)

-- ---- what holds on the way

-- what is to hold of the databases and of the transactions that wait: the schema, which transactions were taken, and which
-- database is made of which, by what outcome and after how many that were kept
pub record Rules : Type 1 where
  pub schema : Schema
  pub IsTaken : Arrival → Type 0
  pub Made : Outcome → ℕ → Database → Database → Type 0

-- where attempts begin: after how many databases that were kept, with which one, and with which one that a failed commit would
-- have made
pub record Start : Type 0 where
  pub number : ℕ
  pub database : Database
  pub sealed : Option Database

-- the start in a state
abbrev pub start_at : ℕ → State → Start
start_at n s = record { number = n; database = s.database; sealed = s.sealed }

-- What holds after attempts that kept these databases: each is made of the one before it, beginning with the first, as the next
-- ones after the start; so is the one that a failed commit would have made; after that none is kept; and those that wait were
-- taken.
pub record Goes (rules : Rules) (start : Start) (kept : List Database) (s : State) : Type 0 where
  pub schema_is : s.schema ≡ rules.schema
  pub path : Path (rules.Made Committed) start.number start.database kept s.database
  pub failed : ((d : Database) → start.sealed ≡ Some d → rules.Made Failed start.number start.database d)
      → (d : Database) → s.sealed ≡ Some d → rules.Made Failed (after_all start.number kept) s.database d
  pub stays : (d : Database) → start.sealed ≡ Some d → (s.sealed ≡ Some d) × (kept ≡ [])
  pub waiting : AllByRecursion (λ o. rules.IsTaken (arrival_of o)) s.outstanding

-- what holds after some attempts and then after more holds after all of them
pub goes_then : (rules : Rules) (IsEarlier : Arrival → Type 0) (start : Start) (kept more : List Database) (s t : State)
    → Goes (record rules { IsTaken = IsEarlier }) start kept s → Goes rules (start_at (after_all start.number kept) s) more t
    → Goes rules start (kept ++ more) t
goes_then rules IsEarlier start kept more s t a b = record {
  schema_is = b.schema_is;
  path = path-append (rules.Made Committed) start.number start.database kept s.database more t.database a.path b.path;
  failed = λ made d sealed. subst (λ k. rules.Made Failed k t.database d) (sym (after_all-append start.number kept more)) (b.failed (a.failed made) d sealed);
  stays = λ d sealed.
      let one = a.stays d sealed in
      let two = b.stays d one.0 in
      (two.0, ap₂ (λ l m. l ++ m) one.1 two.1);
  waiting = b.waiting;
}

-- those kept, and then this one, if it was kept
abbrev pub and_kept : List Database → Bool → Database → List Database
and_kept kept true d = kept ++ d ∷ []
and_kept kept false d = kept

length-and_kept : (kept : List Database) (b : Bool) (d : Database) → length (and_kept kept b d) ≡ length kept + one_if b
length-and_kept kept true d = length-append kept (d ∷ [])
length-and_kept kept false d = omega arith

-- What an entry is to know of its event: what was taken, that attempts make what is to be made, and that the results are those of
-- the replies.
pub record Entering (rules : Rules) (T : List Database → ℕ → Data → Items → Type 0) (n : ℕ) (s : State) (c : Choice) (what : Event) : Type 0 where
  pub there : s.schema ≡ rules.schema
  pub waiting : AllByRecursion (λ o. rules.IsTaken (arrival_of o)) s.outstanding
  pub new : (session : ℕ) (message : Message) (id : Data) (operations : Items) → what ≡ Take session message → work_of s session message ≡ Transact id operations
      → rules.IsTaken (arrival_of (arrived s session id c.draws operations))
  pub makes : (made : List Attempt) (trial : Trial) (outcome : Outcome) (results : Items) (after : Database)
      → c.outcomes ≡ made ++ trial.left → EventTries s c what trial → rules.IsTaken (arrival_of trial.tried) → (listed trial.number trial.left).outcome ≡ Some outcome
      → tried_in rules.schema trial.state trial.tried ≡ Completes results after → same_database trial.state.database after ≡ false
      → rules.Made outcome (n + commits made) trial.state.database after
  pub replies : (made : List Attempt) (trial : Trial) (results : Items) (after : Database) (ds former next : List Database)
      → c.outcomes ≡ made ++ trial.left → EventTries s c what trial → rules.IsTaken (arrival_of trial.tried)
      → tried_in rules.schema trial.state trial.tried ≡ Completes results after
      → length former ≡ commits made → ds ≡ former ++ trial.state.database ∷ next → ((same_database trial.state.database after ≡ true) ⊎ ((more : List Database) × (next ≡ after ∷ more)))
      → T ds trial.tried.session trial.tried.id results
  pub grows : (ds more : List Database) (session : ℕ) (id : Data) (results : Items) → T ds session id results → T (ds ++ more) session id results

-- ---- one event

module _ (rules : Rules) (T : List Database → ℕ → Data → Items → Type 0) (n0 : ℕ) (s0 : State) (c : Choice) (what : Event) (ok : Entering rules T n0 s0 c what) where
  abbrev Its : Outstanding → Type 0
  Its o = rules.IsTaken (arrival_of o)

  abbrev Made : Outcome → ℕ → Database → Database → Type 0
  Made = rules.Made

  abbrev start : Start
  start = start_at n0 s0

  abbrev Told : Type 0
  Told = takes_another s0 what ≡ false

  -- it holds, and what is sent tells of these databases
  abbrev Course : List Database → State → List Sent → Type 0
  Course kept s sent = Goes rules start kept s × (Told → AllByRecursion (Tells T (s0.database ∷ kept)) sent)

  -- as many are kept as attempts off the list
  abbrev Counted : List Database → List Attempt → Type 0
  Counted kept left = (made : List Attempt) × (c.outcomes ≡ made ++ left) × (commits made ≡ length kept)

  -- before the first attempt
  none : Course [] s0 []
  none = (record { schema_is = ok.there; path = refl; failed = λ made. made; stays = λ d sealed. (sealed, refl); waiting = ok.waiting }, λ told. tt)

  counted_none : Counted [] c.outcomes
  counted_none = ([], refl, refl)

  counted_next : (kept : List Database) (number : ℕ) (left : List Attempt) (d : Database) → Counted kept left → Counted (and_kept kept (is_kept (listed number left).outcome) d) (listed number left).others
  counted_next kept number left d (made, is, count) =
      let (own, left_is, one) = listed-parts number left in (
        made ++ own,
        is ∙ (ap (λ l. made ++ l) left_is ∙ sym (append_assoc made own (listed number left).others)),
        commits-append made own ∙ (ap₂ (λ k m. k + m) count one ∙ sym (length-and_kept kept (is_kept (listed number left).outcome) d)),
      )

  -- the same databases, and others that wait
  goes_aside : (kept : List Database) (s t : State)
      → t.schema ≡ s.schema → t.database ≡ s.database → t.sealed ≡ s.sealed → Goes rules start kept s → AllByRecursion Its t.outstanding → Goes rules start kept t
  goes_aside kept s t schema_is database sealed goes all = record {
    schema_is = schema_is ∙ goes.schema_is;
    path = subst (Path (Made Committed) n0 s0.database kept) (sym database) goes.path;
    failed = λ made d is. subst (λ before. Made Failed (after_all n0 kept) before d) (sym database) (goes.failed made d (sym sealed ∙ is));
    stays = λ d is. let both = goes.stays d is in (sealed ∙ both.0, both.1);
    waiting = all;
  }

  module _ (kept : List Database) (s : State) (sent : List Sent) (course : Course kept s sent) where
    -- nothing is kept
    aside : (x : Stepped) → x.state.schema ≡ s.schema → x.state.database ≡ s.database → x.state.sealed ≡ s.sealed → AllByRecursion Its x.state.outstanding → (Told → AllByRecursion (Tells T (s0.database ∷ kept)) x.sent)
        → Course kept x.state (sent ++ x.sent)
    aside x schema_is database sealed waiting tell = (
      goes_aside kept s x.state schema_is database sealed course.0 waiting,
      λ told. all-append (Tells T (s0.database ∷ kept)) sent x.sent (course.1 told) (tell told),
    )

    closes : (n : ℕ) → Course kept (closed s n).state (sent ++ (closed s n).sent)
    closes n = aside (closed s n) refl refl refl (all-filter Its (λ o. not (eqb o.session n)) s.outstanding course.0.waiting) (λ told. freed-tell T (s0.database ∷ kept) (freed n s.queues))

    module _ (number : ℕ) (left : List Attempt) (counted : Counted kept left) (o : Outstanding) (try : EventTries s0 c what (record { number = number; left = left; state = s; tried = o })) (its : Its o) where
      abbrev trial : Trial
      trial = record { number = number; left = left; state = s; tried = o }

      -- after the attempt
      abbrev After : Option Outcome → Stepped → Type 0
      After outcome x = (listed number left).outcome ≡ outcome → Course (and_kept kept (is_kept outcome) x.state.database) x.state (sent ++ x.sent)

      module _ (age : ℕ) (aged : age ≡ s.moment - o.arrival) where
        -- what it makes of the last database
        abbrev r : TransactionOutcome
        r = transaction s.schema s.database (owns s.queues o.session) o.draws age o.operations

        completes-too : (results : Items) (database : Database) → r ≡ Completes results database → tried_in rules.schema s o ≡ Completes results database
        completes-too results database completes =
            ap₂ (λ (v : Schema) (k : ℕ). transaction v s.database (owns s.queues o.session) o.draws k o.operations) (sym course.0.schema_is) (sym aged) ∙ completes

        -- its reply tells of the last database, and of this one after it
        replies : (results : Items) (database : Database) (rest : List Database) → r ≡ Completes results database → ((same_database s.database database ≡ true) ⊎ ((more : List Database) × (rest ≡ database ∷ more)))
            → T ((s0.database ∷ kept) ++ rest) o.session o.id results
        replies results database rest completes which =
            let (earlier, is, long) = path-last (Made Committed) n0 s0.database kept s.database course.0.path in
            let (made, listed_is, count) = counted in
            ok.replies made trial results database ((s0.database ∷ kept) ++ rest) earlier rest listed_is try its (completes-too results database completes)
            (long ∙ sym count) (ap (λ l. l ++ rest) is ∙ append_assoc earlier (s.database ∷ []) rest) which

        -- nothing changes
        replies_same : (results : Items) (database : Database) → r ≡ Completes results database → same_database s.database database ≡ true → Course kept s (sent ++ results_to o.session o.id results)
        replies_same results database completes same =
            aside (sending s o.session (results_of o.id results)) refl refl refl course.0.waiting (λ told. (
              reply-tells T (s0.database ∷ kept) o.session o.id results (λ fine. subst (λ l. T l o.session o.id results) (append-nil (s0.database ∷ kept)) (replies results database [] completes (inl same))),
              tt,
            ))

        error_tells : (results : Items) → has_error results ≡ true → AllByRecursion (Tells T (s0.database ∷ kept)) (results_to o.session o.id results)
        error_tells results error = (reply-tells T (s0.database ∷ kept) o.session o.id results (λ fine. absurd (false≢true (sym fine ∙ error))), tt)

        module _ (results : Items) (database : Database) (completes : r ≡ Completes results database) (changes : same_database s.database database ≡ false) (unsealed : s.sealed ≡ None) where
          makes : (outcome : Outcome) → (listed number left).outcome ≡ Some outcome → Made outcome (after_all n0 kept) s.database database
          makes outcome own =
              let (made, listed_is, count) = counted in
              subst (λ k. Made outcome k s.database database) (ap (λ k. n0 + k) count ∙ sym (after_all-is n0 kept))
              (ok.makes made trial outcome results database listed_is try its own (completes-too results database completes) changes)

          not_sealed : {B : Type 0} (d : Database) → s.sealed ≡ Some d → B
          not_sealed d sealed = absurd (no (sym unsealed ∙ sealed))
            where
              no : None ≡ Some d → ⊥
              no e = cc

          -- the change is kept
          keeps_change : After (Some Committed) (keeping s o.session o.id results database)
          keeps_change own = (
            record {
              schema_is = course.0.schema_is;
              path = path-append (Made Committed) n0 s0.database kept s.database (database ∷ []) database course.0.path (makes Committed own, refl);
              failed = λ made d sealed. not_sealed d sealed;
              stays = λ d seal_is. not_sealed d (course.0.stays d seal_is).0;
              waiting = course.0.waiting;
            },
            λ told.
                let updates : List Sent = updates_sent s.database database s.sessions in
                all-append (Tells T (s0.database ∷ (kept ++ database ∷ []))) sent (updates ++ results_to o.session o.id results)
                (all-so (Tells T (s0.database ∷ kept)) (Tells T (s0.database ∷ (kept ++ database ∷ []))) (λ x tells id results' is fine. ok.grows (s0.database ∷ kept) (database ∷ []) x.session id results' (tells id results' is fine)) sent (course.1 told))
                (all-append (Tells T (s0.database ∷ (kept ++ database ∷ []))) updates (results_to o.session o.id results)
                (updates-tell T (s0.database ∷ (kept ++ database ∷ [])) s.database database s.sessions)
                (reply-tells T (s0.database ∷ (kept ++ database ∷ [])) o.session o.id results (λ fine. replies results database (database ∷ []) completes (inr ([], refl))), tt)),
          )

          -- the store fails
          seals_change : After (Some Failed) (sealing s o.session o.id results database)
          seals_change own = (
            record {
              schema_is = course.0.schema_is;
              path = course.0.path;
              failed = λ made d sealed. subst (Made Failed (after_all n0 kept) s.database) (same_Some database d sealed) (makes Failed own);
              stays = λ d seal_is. not_sealed d (course.0.stays d seal_is).0;
              waiting = course.0.waiting;
            },
            λ told. all-append (Tells T (s0.database ∷ kept)) sent (results_to o.session o.id (failed_results results)) (course.1 told) (error_tells (failed_results results) (and_item-error results InputOutput)),
          )

        errs : (results : Items) → has_error results ≡ true → Course kept s (sent ++ results_to o.session o.id results)
        errs results error = aside (sending s o.session (results_of o.id results)) refl refl refl course.0.waiting (λ told. error_tells results error)

        attempt_goes : OfAttempt After s o r
        attempt_goes = record {
          same = λ results database completes same own. replies_same results database completes same;
          refused = λ results error. (λ own. errs results error, λ own. errs results error);
          changed = λ results database completes changes unsealed. (λ own. keeps_change results database completes changes unsealed own, λ own. seals_change results database completes changes unsealed own);
          waits = λ timeout waits own. aside (blocked s o timeout) refl refl refl (all-append Its s.outstanding (record o { timeout = timeout } ∷ []) course.0.waiting (its, tt)) (λ told. tt);
        }

      -- a transaction that waits is tried again
      try_goes : (t : Stepped) → tries_again s o (listed number left).outcome ≡ Some t → Course (and_kept kept (is_kept (listed number left).outcome) t.state.database) t.state (sent ++ t.sent)
      try_goes t h = try_is After s o (λ own. closes o.session) (attempt_goes (s.moment - o.arrival) refl) (listed number left).outcome t h refl

  -- ---- settling

  -- what settling tries from here, the event tries
  abbrev Tries : State → List Outstanding → ℕ → List Attempt → Type 0
  Tries s waiting number attempts = (trial : Trial) → SettlingTries s waiting number attempts trial → EventTries s0 c what trial

  -- after a pass
  abbrev Passes : List Database → List Sent → Passed → Type 0
  Passes kept sent p =
      Course (and_kept kept p.has_changed (left_by p).database) (left_by p) (sent ++ sent_by p)
      × Counted (and_kept kept p.has_changed (left_by p).database) p.tried.others
      × (p.has_changed ≡ true → Tries (emptied (left_by p)) (still_waiting (left_by p) (left_by p).outstanding) p.next p.tried.others)

  further : (kept : List Database) (sent : List Sent) (x : Stepped) (rest p : Passed) → passes_after x.sent rest ≡ p → Passes kept (sent ++ x.sent) rest → Passes kept sent p
  further kept sent x rest p is h =
      subst (Passes kept sent) is
      (subst (Course (and_kept kept rest.has_changed (left_by rest).database) (left_by rest)) (append_assoc sent x.sent (sent_by rest)) h.0, h.1, h.2)

  -- those that go on waiting after a change
  back_goes : (kept : List Database) (s : State) (sent : List Sent) (waiting : List Outstanding) → Course kept s sent → AllByRecursion Its waiting → Course kept (waits_after s waiting) sent
  back_goes kept s sent waiting course all = (
    goes_aside kept s (waits_after s waiting) refl refl refl course.0 (all-append Its s.outstanding (still_waiting s waiting) course.0.waiting (all-filter Its (λ o. is_open s o.session) waiting all)),
    course.1,
  )

  pass_goes : (kept : List Database) (s : State) (sent : List Sent) (number : ℕ) (attempts : List Attempt) (waiting : List Outstanding) (p : Passed)
      → Course kept s sent → Counted kept attempts → Tries s (still_waiting s waiting) number attempts → AllByRecursion Its waiting → pass s number attempts waiting ≡ Some p → Passes kept sent p
  pass_goes kept s sent number attempts [] p course counted tries all h =
      subst (Passes kept sent) (same_Some (passed s number attempts false) p h) (subst (Course kept s) (sym (append-nil sent)) course, counted, λ no. absurd (false≢true no))
  pass_goes kept s sent number attempts (o ∷ waiting) p course counted tries all h = elim (pass_first s number attempts o waiting p h) [
    | inl skipped ↦
        pass_goes kept s sent number attempts waiting p course counted (subst (λ l. Tries s l number attempts) (ap (λ b. cond b (o ∷ still_waiting s waiting) (still_waiting s waiting)) skipped.0) tries) all.1 skipped.1
    | inr x ↦
        let own : Listed = listed number attempts in
        let t : Stepped = x.first in
        let tries' : Tries s (o ∷ still_waiting s waiting) number attempts = subst (λ l. Tries s l number attempts) (ap (λ b. cond b (o ∷ still_waiting s waiting) (still_waiting s waiting)) x.open') tries in
        let next : Trial = record { number = number; left = attempts; state = s; tried = o } in
        let try : EventTries s0 c what next = tries' next (tries_next s o (still_waiting s waiting) number attempts) in
        let so : (y : Outstanding) → is_open t.state y.session ≡ true → is_open s y.session ≡ true = λ y. opens_none s o own.outcome t x.try y.session in
        let after = try_goes kept s sent course number attempts counted o try all.0 t x.try in
        let counted' = counted_next kept number attempts t.state.database counted in
        further kept sent t x.rest p x.is (elim x.goes_on [
          | inl ends ↦
              let kept' : Course (kept ++ t.state.database ∷ []) t.state (sent ++ t.sent) = subst (λ b. Course (and_kept kept b t.state.database) t.state (sent ++ t.sent)) ends.0 after in
              let changed : Changes s true t = subst (λ b. Changes s b t) ends.0 (try_changes s o own.outcome t x.try) in
              let anew : Tries (emptied t.state) (still_waiting t.state (t.state.outstanding ++ still_waiting t.state waiting)) (number + 1) own.others =
              λ trial on. tries' trial (tries_anew s o (still_waiting s waiting) number attempts t trial x.try changed
              (subst (λ l. SettlingTries (emptied t.state) l (number + 1) own.others trial)
              (waiting-open t.state (λ z. is_open t.state z.session) (λ z open'. open') t.state.outstanding waiting ∙ sym (waiting-open t.state (λ z. is_open s z.session) so t.state.outstanding waiting)) on)) in
              subst (Passes kept (sent ++ t.sent)) ends.1 (
                subst (Course (kept ++ t.state.database ∷ []) (waits_after t.state waiting)) (sym (append-nil (sent ++ t.sent))) (back_goes (kept ++ t.state.database ∷ []) t.state (sent ++ t.sent) waiting kept' all.1),
                subst (λ b. Counted (and_kept kept b t.state.database) own.others) ends.0 counted',
                λ yes. anew,
              )
          | inr on ↦
              let same : Changes s false t = subst (λ b. Changes s b t) on.0 (try_changes s o own.outcome t x.try) in
              let later : Tries t.state (still_waiting t.state waiting) (number + 1) own.others =
              λ trial h'. tries' trial (tries_on s o (still_waiting s waiting) number attempts t trial x.try same
              (subst (λ l. SettlingTries t.state l (number + 1) own.others trial) (sym (filter-within (λ z. is_open t.state z.session) (λ z. is_open s z.session) so waiting)) h')) in
              pass_goes kept t.state (sent ++ t.sent) (number + 1) own.others waiting x.rest (subst (λ b. Course (and_kept kept b t.state.database) t.state (sent ++ t.sent)) on.0 after)
              (subst (λ b. Counted (and_kept kept b t.state.database) own.others) on.0 counted') later all.1 on.1
        ])
  ]

  passes_goes : (most : ℕ) (kept : List Database) (s : State) (sent : List Sent) (number : ℕ) (attempts : List Attempt) (p : Passed)
      → Course kept s sent → Counted kept attempts → Tries (emptied s) (still_waiting s s.outstanding) number attempts → settle_within most s number attempts ≡ Some p
      → Course (kept ++ kept_by_passes most s number attempts) (left_by p) (sent ++ sent_by p)
  passes_goes zero kept s sent number attempts p course counted tries h =
      subst (λ l. Course l (left_by p) (sent ++ sent_by p)) (sym (append-nil kept))
      (subst (λ (v : Passed). Course kept (left_by v) (sent ++ sent_by v)) (same_Some (passed s number attempts false) p h) (subst (Course kept s) (sym (append-nil sent)) course))
  passes_goes (suc most) kept s sent number attempts p course counted tries h =
      let x = settle_first most s number attempts p h in
      let empty : Course kept (emptied s) sent = (goes_aside kept s (emptied s) refl refl refl course.0 tt, course.1) in
      let first_pass = pass_goes kept (emptied s) sent number attempts s.outstanding x.first empty counted tries course.0.waiting x.pass in
      let last : Database = (left_by x.first).database in
      elim x.goes_on [
        | inl (changed, rest, on, is) ↦
            let kept' = subst (λ b. Course (and_kept kept b last) (left_by x.first) (sent ++ sent_by x.first)) changed first_pass.0 in
            let counted' = subst (λ b. Counted (and_kept kept b last) x.first.tried.others) changed first_pass.1 in
            let more : List Database = kept_by_passes most (left_by x.first) x.first.next x.first.tried.others in
            let later = passes_goes most (kept ++ last ∷ []) (left_by x.first) (sent ++ sent_by x.first) x.first.next x.first.tried.others rest kept' counted' (first_pass.2 changed) on in
            subst (λ l. Course l (left_by p) (sent ++ sent_by p)) (append_assoc kept (last ∷ []) more ∙ ap (λ l. kept ++ l) (sym (kept_by_passes-first most s number attempts x.first x.pass true changed)))
            (subst (λ (v : Passed). Course ((kept ++ last ∷ []) ++ more) (left_by v) (sent ++ sent_by v)) is
            (subst (Course ((kept ++ last ∷ []) ++ more) (left_by rest)) (append_assoc sent (sent_by x.first) (sent_by rest)) later))
        | inr (same, is) ↦
            let kept' = subst (λ b. Course (and_kept kept b last) (left_by x.first) (sent ++ sent_by x.first)) same first_pass.0 in
            subst (λ l. Course l (left_by p) (sent ++ sent_by p)) (sym (append-nil kept) ∙ ap (λ l. kept ++ l) (sym (kept_by_passes-first most s number attempts x.first x.pass false same)))
            (subst (λ (v : Passed). Course kept (left_by v) (sent ++ sent_by v)) is kept')
      ]

  settle_goes : (kept : List Database) (s : State) (sent : List Sent) (number : ℕ) (attempts : List Attempt) (p : Passed)
      → Course kept s sent → Counted kept attempts → Tries (emptied s) (still_waiting s s.outstanding) number attempts → settle s number attempts ≡ Some p
      → Course (kept ++ kept_by_settling s number attempts) (left_by p) (sent ++ sent_by p)
  settle_goes kept s sent number attempts p course counted tries h = passes_goes (length s.outstanding) kept s sent number attempts p course counted tries h

  -- ---- by event

  -- nothing is kept, and no reply is sent
  other : (Told → ⊥) → (x : Stepped) → x.state.schema ≡ s0.schema → x.state.database ≡ s0.database → x.state.sealed ≡ s0.sealed → AllByRecursion Its x.state.outstanding → Course [] x.state x.sent
  other not_told x schema_is database sealed all = aside [] s0 [] none x schema_is database sealed all (λ told. absurd (not_told told))

  -- what an attempt 1 comes to, if it kept a database or not
  abbrev AfterFirst : Bool → Stepped → Type 0
  AfterFirst kept x = Course (and_kept [] kept x.state.database) x.state x.sent

  -- work that is not to try a transaction
  other_goes : (Told → ⊥) → (n : ℕ) (o : Option Outcome) (w : Work) → is_transaction w ≡ false → (t : Stepped) → works s0 n c.draws o w ≡ Some t → AfterFirst (is_kept o) t
  other_goes not_told n o w is_not t h =
      work_has AfterFirst s0 n c.draws o w t (record {
        closes = closes [] s0 [] none n;
        sends = λ trees. other not_told (sending s0 n trees) refl refl refl ok.waiting;
        transacts = λ id operations is. absurd (false≢true (sym is_not ∙ ap is_transaction is));
        cancels = λ id is. other not_told (canceling s0 n id) refl refl refl (all-filter Its (λ o. not (is_request n id o)) s0.outstanding ok.waiting);
        locks = λ call id name is. other not_told (locks s0 n call id name) refl refl refl ok.waiting;
        watches = λ id result monitors is. other not_told (watching s0 n id result monitors) refl refl refl ok.waiting;
      }) h

  work_goes : (n : ℕ) (message : Message) → what ≡ Take n message → (t : Stepped) (w : Work) → work_of s0 n message ≡ w → works s0 n c.draws (listed 1 c.outcomes).outcome w ≡ Some t → AfterFirst (is_kept (listed 1 c.outcomes).outcome) t
  work_goes n message is t (Transact id operations) asks h =
      let o : Outstanding = arrived s0 n id c.draws operations in
      let first : Trial = record { number = 1; left = c.outcomes; state = s0; tried = o } in
      let try : EventTries s0 c what first = subst (λ v. EventTries s0 c v first) (sym is) (tries_message s0 c n message id operations asks) in
      let its : Its o = ok.new n message id operations is asks in
      let aged : 0 ≡ s0.moment - s0.moment = omega arith in
      arrival_is (After [] s0 [] none 1 c.outcomes counted_none o try its) s0 n c.draws id operations (λ own. closes [] s0 [] none n)
      (attempt_goes [] s0 [] none 1 c.outcomes counted_none o try its 0 aged) (listed 1 c.outcomes).outcome t h refl
  work_goes n message is t w asks h = other_goes (λ told. false≢true (sym (sym (ap (λ v. takes_another s0 v) is ∙ ap (λ v. not (is_transaction v)) asks) ∙ told))) n (listed 1 c.outcomes).outcome w refl t h

  take_goes : (n : ℕ) (message : Message) (t : Stepped) → what ≡ Take n message → ends (takes_and_settles s0 c n message) ≡ Some t → Course (kept_by_message s0 c n message) t.state t.sent
  take_goes n message t is h =
      let x = takes_first s0 c n message t h in
      let first_goes = work_goes n message is x.first (work_of s0 n message) refl x.work in
      elim x.goes_on [
        | inl (not_kept, same) ↦
            subst (λ l. Course l t.state t.sent) (sym (kept-is x.first x.work false not_kept))
            (subst (λ (v : Stepped). Course [] v.state v.sent) same (subst (λ b. AfterFirst b x.first) not_kept first_goes))
        | inr (was_kept, p, settled, same) ↦
            let kept' : Course (x.first.state.database ∷ []) x.first.state x.first.sent = subst (λ b. AfterFirst b x.first) was_kept first_goes in
            let counted' : Counted (x.first.state.database ∷ []) own.others = subst (λ b. Counted (and_kept [] b x.first.state.database) own.others) was_kept (counted_next [] 1 c.outcomes x.first.state.database counted_none) in
            let tries : Tries (emptied x.first.state) (still_waiting x.first.state x.first.state.outstanding) 2 own.others =
            λ trial on. subst (λ v. EventTries s0 c v trial) (sym is) (tries_after s0 c n message (tried x.first) trial (ap (option_map tried) x.work) was_kept on) in
            subst (λ l. Course l t.state t.sent) (sym (kept-is x.first x.work true was_kept))
            (subst (λ (v : Stepped). Course (keeps (tried x.first) true) v.state v.sent) same (settle_goes (x.first.state.database ∷ []) x.first.state x.first.sent 2 own.others p kept' counted' tries settled))
      ]
    where
      own : Listed
      own = listed 1 c.outcomes

      -- what the work keeps, and then settling
      keeps : Tried → Bool → List Database
      keeps v b = cond b (v.stepped.state.database ∷ kept_by_settling v.stepped.state 2 v.others) []

      tried : Stepped → Tried
      tried u = record { stepped = u; others = own.others }

      kept-is : (u : Stepped) → works s0 n c.draws own.outcome (work_of s0 n message) ≡ Some u → (b : Bool) → is_kept own.outcome ≡ b → kept_by_message s0 c n message ≡ keeps (tried u) b
      kept-is u work b kept' = ap (λ o. if_suits (option_map tried o) (λ v. keeps v (is_kept own.outcome))) work ∙ ap (keeps (tried u)) kept'

  event_goes : (event : Event) (t : Stepped) → what ≡ event → happens s0 c event ≡ Some t → Course (kept_by_event s0 c event) t.state t.sent
  event_goes Open t is h =
      let x : Stepped = record { state = with_next_session s0; sent = [] } in
      subst (λ (v : Stepped). Course [] v.state v.sent) (same_Some x t (when_is (is_without_choice c) (Some x) t h))
      (aside [] s0 [] none x refl refl refl ok.waiting (λ told. tt))
  event_goes (Take n message) t is h = take_goes n message t is (when_is (is_open s0 n) (ends (takes_and_settles s0 c n message)) t h)
  event_goes (Close n cause) t is h =
      subst (λ (v : Stepped). Course [] v.state v.sent) (same_Some (closed s0 n) t (when_is (is_without_choice c && is_open s0 n) (Some (closed s0 n)) t h)) (closes [] s0 [] none n)
  event_goes Tick t is h =
      let (p, settled, same) = tick_first s0 c t (when_is (none_drawn c) (ends (option_map (λ p. p.tried) (settle s0 1 c.outcomes))) t h) in
      let tries : Tries (emptied s0) (still_waiting s0 s0.outstanding) 1 c.outcomes = λ trial on. subst (λ v. EventTries s0 c v trial) (sym is) (tries_waiting s0 c trial on) in
      subst (λ (v : Stepped). Course (kept_by_settling s0 1 c.outcomes) v.state v.sent) same (settle_goes [] s0 [] 1 c.outcomes p none counted_none tries settled)

  pub happens_goes : (t : Stepped) → happens s0 c what ≡ Some t
      → Goes rules start (kept_by_event s0 c what) t.state × (takes_another s0 what ≡ false → AllByRecursion (Tells T (s0.database ∷ kept_by_event s0 c what)) t.sent)
  happens_goes t h = event_goes what t refl h

-- what an entry keeps, and what it sends
pub step_goes : (rules : Rules) (T : List Database → ℕ → Data → Items → Type 0) (n : ℕ) (s : State) (e : Entry) (t : Stepped)
    → Entering rules T n (at_moment_of e s) e.choice e.event → step s e ≡ Some t
    → Goes rules (start_at n s) (kept_by_event (at_moment_of e s) e.choice e.event) t.state
    × (takes_another (at_moment_of e s) e.event ≡ false → AllByRecursion (Tells T (s.database ∷ kept_by_event (at_moment_of e s) e.choice e.event)) t.sent)
step_goes rules T n s e t ok h =
    happens_goes rules T n (at_moment_of e s) e.choice e.event ok t (when_is (nat_le s.moment e.choice.moment) (happens (at_moment_of e s) e.choice e.event) t h)

-- ---- a run

-- nothing is asked of the replies
abbrev pub no_reply : List Database → ℕ → Data → Items → Type 0
no_reply ds session id results = Unit {0}

-- one entry more
commits-more : (h : List Entry) (e : Entry) → length (commits_in (h ++ e ∷ [])) ≡ length (commits_in h) + commits e.choice.outcomes
commits-more [] e = commits-append e.choice.outcomes [] ∙ omega arith
commits-more (d ∷ h) e = omega (arith, commits-append d.choice.outcomes (flat_map (λ x. x.choice.outcomes) (h ++ e ∷ [])), commits-append d.choice.outcomes (flat_map (λ x. x.choice.outcomes) h), commits-more h e)

module _ (schema : Schema) (first : State) (history : List Entry) (IsTaken : List Entry → Arrival → Type 0) (Made : Outcome → ℕ → Database → Database → Type 0) where
  -- the rules after these entries
  abbrev pub rules_after : List Entry → Rules
  rules_after done = record { schema = schema; IsTaken = IsTaken done; Made = Made }

  -- after these entries, what the next one is to know
  abbrev pub Enters : Type 0
  Enters = (done : List Entry) (e : Entry) (later : List Entry) (s : State) (n : ℕ) → history ≡ done ++ e ∷ later → Leads first done s → s.schema ≡ schema
      → AllByRecursion (λ o. IsTaken done (arrival_of o)) s.outstanding → n ≡ length (commits_in done)
      → Entering (rules_after (done ++ e ∷ [])) no_reply n (at_moment_of e s) e.choice e.event

  pub run_goes : Enters → (h done : List Entry) (n : ℕ) (s : State) (t : Stepped) → history ≡ done ++ h → Leads first done s → s.schema ≡ schema
      → AllByRecursion (λ o. IsTaken done (arrival_of o)) s.outstanding → n ≡ length (commits_in done) → run s h ≡ Some t
      → Goes (rules_after (done ++ h)) (start_at n s) (kept_by s h) t.state
  run_goes enters [] done n s t is leads there waiting count r =
      subst (λ l. Goes (rules_after l) (start_at n s) [] t.state) (sym (append-nil done))
      (subst (Goes (rules_after done) (start_at n s) []) (run_none s t r) (record { schema_is = there; path = refl; failed = λ made. made; stays = λ d sealed. (sealed, refl); waiting = waiting }))
  run_goes enters (e ∷ h) done n s t is leads there waiting count r =
      let parts = run_parts s e h t r in
      let own : List Database = kept_by_event (at_moment_of e s) e.choice e.event in
      let more : List Database = kept_by parts.first.state h in
      let one : Goes (rules_after (done ++ e ∷ [])) (start_at n s) own parts.first.state =
      (step_goes (rules_after (done ++ e ∷ [])) no_reply n s e parts.first (enters done e h s n is leads there waiting count) parts.stepped).0 in
      let kept : commits e.choice.outcomes ≡ length own =
      event-commits (at_moment_of e s) e.choice e.event parts.first (when_is (nat_le s.moment e.choice.moment) (happens (at_moment_of e s) e.choice e.event) parts.first parts.stepped) in
      let count' : after_all n own ≡ length (commits_in (done ++ e ∷ [])) = after_all-is n own ∙ (ap₂ (λ k m. k + m) count (sym kept) ∙ sym (commits-more done e)) in
      let rest = run_goes enters h (done ++ e ∷ []) (after_all n own) parts.first.state parts.rest (is ∙ sym (append_assoc done (e ∷ []) h)) (leads_more first done s e parts.first leads parts.stepped) one.schema_is one.waiting count' parts.runs in
      subst (λ l. Goes (rules_after (done ++ e ∷ h)) (start_at n s) l t.state) (sym (ap (λ o. if_suits o (λ (v : Stepped). own ++ kept_by v.state h)) parts.stepped))
      (subst (Goes (rules_after (done ++ e ∷ h)) (start_at n s) (own ++ more)) parts.state
      (subst (λ l. Goes (rules_after l) (start_at n s) (own ++ more) parts.rest.state) (append_assoc done (e ∷ []) h)
      (goes_then (rules_after ((done ++ e ∷ []) ++ h)) (IsTaken (done ++ e ∷ [])) (start_at n s) own more parts.first.state parts.rest.state one rest)))
