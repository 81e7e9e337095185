-- Each step of the machine keeps of its rows what each transaction keeps.
use Rattle.std.proofs.Common.{◌≡◌, ℕ, ◌-◌, List, [], ◌∷◌, Bool, true, Option, Some, None, inl, inr, filter, eqb, leb, refl, subst, ◌∙◌}
use Rattle.std.specs.Prelude.{◌&&◌, not, option_map}
use Rattle.std.specs.List.{list_all}
use Rattle.std.proofs.lemmas.Bool.{and_parts, and_from}
use Rattle.std.proofs.lemmas.List.Folds.{list_all-append}
use Rattle.std.proofs.lemmas.Option.{same_Some}
use Rattle.serde_json.specs.Data.{Items}
use Rattle.ov_specs.specs.locks.Queues.{owns}
use Rattle.ov_specs.specs.machine.History.{run}
use Rattle.ov_specs.specs.machine.Machine.{State, Entry, Attempt, Choice, Event, Open, Take, Close, Tick, Outcome, Outstanding, Listed, listed, Stepped, Passed, step, happens, works, takes_and_settles, tries_again, settle, waits_after, still_waiting, closed, is_open, is_request, is_without_choice, none_drawn, with_next_session, ends, arrived, Work, work_of, opening}
use Rattle.ov_specs.specs.operations.OpOutcome.{Owns}
use Rattle.ov_specs.specs.operations.Transaction.{Completes, transaction}
use Rattle.ov_specs.specs.rows.Database.{Database}
use Rattle.ov_specs.specs.schema.SchemaTypes.{Schema}
use Rattle.ov_specs.specs.values.Uuid.{Uuid}
use Rattle.ov_specs.specs.wire.Message.{Message}
use Rattle.ov_specs.proofs.laws.Histories.{run_parts}
use Rattle.ov_specs.proofs.laws.Lists.{all-filter}
use Rattle.ov_specs.proofs.laws.Tries.{left_by, IsKeptByTries, settle_keeps, takes_first, tick_first}
use Rattle.ov_specs.proofs.laws.Works.{OfOutcome, when_is, try_has, work_has}

-- It holds of the committed rows, and of those that a failed commit would have made; and what was drawn for each waiting
-- transaction passes the test.
pub record Holds (P : Schema → Database → Type 0) (are_drawn : List Uuid → Bool) (s : State) : Type 0 where
  pub committed : P s.schema s.database
  pub sealed : (database : Database) → s.sealed ≡ Some database → P s.schema database
  pub drawn : list_all (λ o. are_drawn o.draws) s.outstanding ≡ true

-- each transaction keeps it, at any age, if what is drawn passes the test
abbrev pub IsKept : (Schema → Database → Type 0) → (List Uuid → Bool) → Type 0
IsKept P are_drawn =
    (schema : Schema) (before database : Database) (owns : Owns) (draws : List Uuid) (age : ℕ) (operations results : Items) → are_drawn draws ≡ true → P schema before
    → transaction schema before owns draws age operations ≡ Completes results database → P schema database

-- before any event nothing is sealed, and nothing waits
pub opening_holds : (P : Schema → Database → Type 0) (are_drawn : List Uuid → Bool) (schema : Schema) (database : Database) → P schema database → Holds P are_drawn (opening schema database)
opening_holds P are_drawn schema database holds = record { committed = holds; sealed = λ d is. absurd (no d is); drawn = refl }
  where
    no : (d : Database) → None ≡ Some d → ⊥
    no d e = cc

module _ (P : Schema → Database → Type 0) (are_drawn : List Uuid → Bool) (kept : IsKept P are_drawn) where
  -- what was drawn for it passes
  abbrev is_drawn : Outstanding → Bool
  is_drawn o = are_drawn o.draws

  -- the schema is this one, and it holds of the rows
  abbrev Stays : Schema → State → Type 0
  Stays schema t = (t.schema ≡ schema) × Holds P are_drawn t

  -- ---- a transaction

  -- a database that is kept, or that the store failed to keep
  commit_stays : (s : State) → Holds P are_drawn s → (database : Database) → P s.schema database → Stays s.schema (record s { database = database }) × Stays s.schema (record s { sealed = Some database })
  commit_stays s holds database new = (
    (refl, record { committed = new; sealed = holds.sealed; drawn = holds.drawn }),
    (refl, record { committed = holds.committed; sealed = λ d same. subst (P s.schema) (same_Some database d same) new; drawn = holds.drawn }),
  )

  outcome_stays : (s : State) (o : Outstanding) (owns : Owns) (age : ℕ) → are_drawn o.draws ≡ true → Holds P are_drawn s → OfOutcome (λ own x. Stays s.schema x.state) s o (transaction s.schema s.database owns o.draws age o.operations)
  outcome_stays s o owns age are holds = record {
    sends = λ trees. (refl, holds);
    commits = λ results database completes. commit_stays s holds database (kept s.schema s.database database owns o.draws age o.operations results are holds.committed completes);
    waits = λ timeout is. (
      refl,
      record {
        committed = holds.committed;
        sealed = holds.sealed;
        drawn = list_all-append is_drawn s.outstanding (record o { timeout = timeout } ∷ []) ∙ and_from (list_all is_drawn s.outstanding) (are_drawn o.draws && true) holds.drawn (and_from (are_drawn o.draws) true are refl);
      },
    );
  }

  -- fewer wait
  some_stays : (s : State) (test : Outstanding → Bool) → Holds P are_drawn s → list_all is_drawn (filter test s.outstanding) ≡ true
  some_stays s test holds = all-filter test is_drawn s.outstanding holds.drawn

  closed_stays : (s : State) (n : ℕ) → Holds P are_drawn s → Stays s.schema (closed s n).state
  closed_stays s n holds = (refl, record { committed = holds.committed; sealed = holds.sealed; drawn = some_stays s (λ o. not (eqb o.session n)) holds })

  work_stays : (s : State) (n : ℕ) (draws : List Uuid) (o : Option Outcome) (w : Work) (t : Stepped) → are_drawn draws ≡ true → Holds P are_drawn s → works s n draws o w ≡ Some t → Stays s.schema t.state
  work_stays s n draws o w t are holds h =
      work_has (λ own x. Stays s.schema x.state) s n draws o w t (record {
        closes = closed_stays s n holds;
        sends = λ trees. (refl, holds);
        transacts = λ id operations is. outcome_stays s (arrived s n id draws operations) (owns s.queues n) 0 are holds;
        cancels = λ id is. (refl, record { committed = holds.committed; sealed = holds.sealed; drawn = some_stays s (λ o. not (is_request n id o)) holds });
        locks = λ call id name is. (refl, record { committed = holds.committed; sealed = holds.sealed; drawn = holds.drawn });
        watches = λ id result monitors is. (refl, record { committed = holds.committed; sealed = holds.sealed; drawn = holds.drawn });
      }) h

  -- ---- settling

  try_stays : (s : State) (o : Outstanding) (outcome : Option Outcome) (t : Stepped) → are_drawn o.draws ≡ true → Holds P are_drawn s → tries_again s o outcome ≡ Some t → Stays s.schema t.state
  try_stays s o outcome t are holds h = try_has (λ own x. Stays s.schema x.state) s o outcome t (closed_stays s o.session holds) (outcome_stays s o (owns s.queues o.session) (s.moment - o.arrival) are holds) h

  back_stays : (s : State) (waiting : List Outstanding) → Holds P are_drawn s → list_all is_drawn waiting ≡ true → Holds P are_drawn (waits_after s waiting)
  back_stays s waiting holds are = record {
    committed = holds.committed;
    sealed = holds.sealed;
    drawn =
        list_all-append is_drawn s.outstanding (still_waiting s waiting)
        ∙ and_from (list_all is_drawn s.outstanding) (list_all is_drawn (still_waiting s waiting)) holds.drawn (all-filter (λ o. is_open s o.session) is_drawn waiting are);
  }

  tries_stay : (schema : Schema) → IsKeptByTries (λ t sent. Stays schema t) is_drawn
  tries_stay schema = record {
    aside = λ s sent stays. ((stays.0, record { committed = stays.1.committed; sealed = stays.1.sealed; drawn = refl }), stays.1.drawn);
    back = λ s sent waiting stays are. (stays.0, back_stays s waiting stays.1 are);
    tries = λ s sent o outcome t stays are there again. let after = try_stays s o outcome t are stays.1 again in (after.0 ∙ stays.0, after.1);
  }

  settle_stays : (s : State) (number : ℕ) (attempts : List Attempt) (p : Passed) → Holds P are_drawn s → settle s number attempts ≡ Some p → Stays s.schema (left_by p)
  settle_stays s number attempts p holds h = settle_keeps (λ t sent. Stays s.schema t) is_drawn (tries_stay s.schema) s number attempts p (refl, holds) h

  -- ---- one step

  take_stays : (s : State) (c : Choice) (n : ℕ) (message : Message) (t : Stepped) → are_drawn c.draws ≡ true → Holds P are_drawn s → ends (takes_and_settles s c n message) ≡ Some t → Stays s.schema t.state
  take_stays s c n message t are holds h =
      let x = takes_first s c n message t h in
      let own : Listed = listed 1 c.outcomes in
      let first = work_stays s n c.draws own.outcome (work_of s n message) x.first are holds x.work in
      elim x.goes_on [
        | inl (not_kept, same) ↦ subst (λ (v : Stepped). Stays s.schema v.state) same first
        | inr (was_kept, p, settled, same) ↦
            let last = settle_stays x.first.state 2 own.others p first.1 settled in
            subst (λ (v : Stepped). Stays s.schema v.state) same (last.0 ∙ first.0, last.1)
      ]

  happens_stays : (s : State) (c : Choice) (what : Event) (t : Stepped) → are_drawn c.draws ≡ true → Holds P are_drawn s → happens s c what ≡ Some t → Stays s.schema t.state
  happens_stays s c Open t are holds h =
      let x : Stepped = record { state = with_next_session s; sent = [] } in
      subst (λ (v : Stepped). Stays s.schema v.state) (same_Some x t (when_is (is_without_choice c) (Some x) t h)) (refl, record { committed = holds.committed; sealed = holds.sealed; drawn = holds.drawn })
  happens_stays s c (Take n message) t are holds h = take_stays s c n message t are holds (when_is (is_open s n) (ends (takes_and_settles s c n message)) t h)
  happens_stays s c (Close n cause) t are holds h =
      subst (λ (v : Stepped). Stays s.schema v.state) (same_Some (closed s n) t (when_is (is_without_choice c && is_open s n) (Some (closed s n)) t h)) (closed_stays s n holds)
  happens_stays s c Tick t are holds h =
      let (p, settled, same) = tick_first s c t (when_is (none_drawn c) (ends (option_map (λ p. p.tried) (settle s 1 c.outcomes))) t h) in
      subst (λ (v : Stepped). Stays s.schema v.state) same (settle_stays s 1 c.outcomes p holds settled)

  -- a step keeps the schema, and what holds of the rows
  pub step_holds : (s : State) (e : Entry) (t : Stepped) → step s e ≡ Some t → are_drawn e.choice.draws ≡ true → Holds P are_drawn s → (t.state.schema ≡ s.schema) × Holds P are_drawn t.state
  step_holds s e t h are holds =
      let now : State = record s { moment = e.choice.moment } in
      happens_stays now e.choice e.event t are (record { committed = holds.committed; sealed = holds.sealed; drawn = holds.drawn }) (when_is (leb s.moment e.choice.moment) (happens now e.choice e.event) t h)

  -- ---- histories

  -- a run keeps the schema, and what holds of the rows
  pub run_holds : (s : State) (history : List Entry) (t : Stepped) → run s history ≡ Some t → list_all (λ e. are_drawn e.choice.draws) history ≡ true → Holds P are_drawn s → (t.state.schema ≡ s.schema) × Holds P are_drawn t.state
  run_holds s [] t h are holds = subst (λ (v : Stepped). Stays s.schema v.state) (same_Some (record { state = s; sent = [] }) t h) (refl, holds)
  run_holds s (e ∷ history) t h are holds =
      let both = and_parts (are_drawn e.choice.draws) (list_all (λ x. are_drawn x.choice.draws) history) are in
      let parts = run_parts s e history t h in
      let first = step_holds s e parts.first parts.stepped both.0 holds in
      let rest = run_holds parts.first.state history parts.rest parts.runs both.1 first.1 in
      subst (Stays s.schema) parts.state (rest.0 ∙ first.0, rest.1)
