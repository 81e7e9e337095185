-- As many databases are kept as attempts are listed as kept.
use Rattle.std.proofs.Common.{◌≡◌, ℕ, zero, suc, ◌+◌, List, [], ◌∷◌, ◌++◌, filter, flat_map, length, length-append, Bool, true, false, cond, eqb, leb, Option, Some, None, option_map, inl, inr, refl, sym, ap, subst, ◌∙◌, arith}
use Rattle.std.specs.Prelude.{◌&&◌}
use Rattle.std.proofs.lemmas.Bool.{and_parts, eqb-true}
use Rattle.std.proofs.lemmas.Option.{same_Some}
use Rattle.ov_specs.specs.machine.History.{run}
use Rattle.ov_specs.specs.machine.Machine.{State, Entry, Attempt, Choice, Event, Open, Take, Close, Tick, Outstanding, Listed, listed, none_listed, none_drawn, Stepped, Tried, Passed, passed, passes_after, happens, works, work_of, takes, then_settles, takes_and_settles, is_kept, is_open, is_without_choice, pass, settle_within, settle, closed, with_next_session, ends}
use Rattle.ov_specs.specs.rows.Database.{Database}
use Rattle.ov_specs.specs.wire.Message.{Message}
use Rattle.ov_specs.proofs.laws.Histories.{run_parts}
use Rattle.ov_specs.proofs.laws.Tries.{left_by, emptied, map_some, then_some, pass_first, settle_first}
use Rattle.ov_specs.proofs.laws.Works.{when_is, when_suits}
use Rattle.ov_laws.specs.Databases.{if_suits, kept_by_passes, kept_by_settling, kept_by_message, kept_by_event, at_moment_of, kept_by, commits_in}
use Rattle.ov_laws.proofs.Kept.{kept_by_passes-first}

-- ---- what is listed

abbrev pub is_commit : Attempt → Bool
is_commit a = is_kept (Some a.outcome)

-- how many of these were kept
abbrev pub commits : List Attempt → ℕ
commits attempts = length (filter is_commit attempts)

abbrev pub one_if : Bool → ℕ
one_if b = cond b 1 0

listed-commits : (number : ℕ) (attempts : List Attempt) → commits attempts ≡ one_if (is_kept (listed number attempts).outcome) + commits (listed number attempts).others
listed-commits number [] = refl
listed-commits number (a ∷ attempts) = by (eqb a.number number)
  where
    own : (b : Bool) → length (cond b (a ∷ filter is_commit attempts) (filter is_commit attempts)) ≡ one_if b + commits attempts
    own true = omega arith
    own false = omega arith

    by : (b : Bool) → commits (a ∷ attempts) ≡ one_if (is_kept (cond {A = Listed} b (record { outcome = Some a.outcome; others = attempts }) (record { outcome = None; others = a ∷ attempts })).outcome)
        + commits (cond {A = Listed} b (record { outcome = Some a.outcome; others = attempts }) (record { outcome = None; others = a ∷ attempts })).others
    by true = own (is_commit a)
    by false = omega arith

none_left : (attempts : List Attempt) → none_listed attempts ≡ true → commits attempts ≡ 0
none_left [] h = refl
none_left (a ∷ attempts) h = absurd (omega (arith, eqb-true (length (a ∷ attempts)) 0 h))

-- ---- settling

-- a pass keeps one database, or none
pass-commits : (s : State) (number : ℕ) (attempts : List Attempt) (waiting : List Outstanding) (p : Passed) → pass s number attempts waiting ≡ Some p → commits attempts ≡ one_if p.has_changed + commits p.tried.others
pass-commits s number attempts [] p h = subst (λ (v : Passed). commits attempts ≡ one_if v.has_changed + commits v.tried.others) (same_Some (passed s number attempts false) p h) (omega arith)
pass-commits s number attempts (o ∷ waiting) p h = elim (pass_first s number attempts o waiting p h) [
  | inl skipped ↦ pass-commits s number attempts waiting p skipped.1
  | inr x ↦
      let own : Listed = listed number attempts in
      let first = listed-commits number attempts in
      subst (λ (v : Passed). commits attempts ≡ one_if v.has_changed + commits v.tried.others) x.is (elim x.goes_on [
        | inl ends ↦ subst (λ (v : Passed). commits attempts ≡ one_if v.has_changed + commits v.tried.others) ends.1 (first ∙ ap (λ b. one_if b + commits own.others) ends.0)
        | inr on ↦
            let rest = pass-commits x.first.state (number + 1) own.others waiting x.rest on.1 in
            let none : one_if (is_kept own.outcome) ≡ 0 = ap one_if on.0 in
            omega (arith, first, none, rest)
      ])
]

passes-commits : (most : ℕ) (s : State) (number : ℕ) (attempts : List Attempt) (p : Passed) → settle_within most s number attempts ≡ Some p → commits attempts ≡ length (kept_by_passes most s number attempts) + commits p.tried.others
passes-commits zero s number attempts p h = subst (λ (v : Passed). commits attempts ≡ 0 + commits v.tried.others) (same_Some (passed s number attempts false) p h) (omega arith)
passes-commits (suc most) s number attempts p h =
    let x = settle_first most s number attempts p h in
    let first = pass-commits (emptied s) number attempts s.outstanding x.first x.pass in
    elim x.goes_on [
      | inl (changed, rest, on, is) ↦
          let later = passes-commits most (left_by x.first) x.first.next x.first.tried.others rest on in
          let one : one_if x.first.has_changed ≡ 1 = ap one_if changed in
          let last : commits rest.tried.others ≡ commits p.tried.others = ap (λ (v : Passed). commits v.tried.others) is in
          let all : length (kept_by_passes (suc most) s number attempts) ≡ suc (length (kept_by_passes most (left_by x.first) x.first.next x.first.tried.others)) =
          ap length (kept_by_passes-first most s number attempts x.first x.pass true changed) in
          omega (arith, first, later, one, last, all)
      | inr (same, is) ↦
          let none : one_if x.first.has_changed ≡ 0 = ap one_if same in
          let last : commits x.first.tried.others ≡ commits p.tried.others = ap (λ (v : Passed). commits v.tried.others) is in
          let all : length (kept_by_passes (suc most) s number attempts) ≡ 0 = ap length (kept_by_passes-first most s number attempts x.first x.pass false same) in
          omega (arith, first, none, last, all)
    ]

-- ---- an entry

-- nothing is left on the list
ends-commits : (o : Option Tried) (t : Stepped) → ends o ≡ Some t → (x : Tried) × (o ≡ Some x) × (commits x.others ≡ 0)
ends-commits None t h = cc
ends-commits (Some x) t h = (x, refl, none_left x.others (when_suits (none_listed x.others) (Some x.stepped) t h))

take-commits : (s : State) (c : Choice) (n : ℕ) (message : Message) (last : Tried) → takes_and_settles s c n message ≡ Some last → commits c.outcomes ≡ length (kept_by_message s c n message) + commits last.others
take-commits s c n message last h =
    let (tried, taken, settles) = then_some (then_settles (is_kept own.outcome)) (takes s c n message) last h in
    let (u, work, same) = map_some (λ x. record { stepped = x; others = own.others }) (works s n c.draws own.outcome (work_of s n message)) tried taken in
    by u (taken ∙ ap (λ (v : Tried). Some v) (sym same)) (is_kept own.outcome) refl (subst (λ (v : Tried). then_settles (is_kept own.outcome) v ≡ Some last) (sym same) settles)
  where
    own : Listed
    own = listed 1 c.outcomes

    keeps : Tried → Bool → List Database
    keeps v b = cond b (v.stepped.state.database ∷ kept_by_settling v.stepped.state 2 v.others) []

    by : (u : Stepped) → takes s c n message ≡ Some (record { stepped = u; others = own.others }) → (b : Bool) → is_kept own.outcome ≡ b → then_settles b (record { stepped = u; others = own.others }) ≡ Some last
        → commits c.outcomes ≡ length (kept_by_message s c n message) + commits last.others
    by u taken false kept k =
        let first = listed-commits 1 c.outcomes in
        let none : one_if (is_kept own.outcome) ≡ 0 = ap one_if kept in
        let others : commits own.others ≡ commits last.others = ap (λ (v : Tried). commits v.others) (same_Some (record { stepped = u; others = own.others }) last k) in
        let all : length (kept_by_message s c n message) ≡ 0 = ap length (ap (λ o. if_suits o (λ v. keeps v (is_kept own.outcome))) taken ∙ ap (keeps (record { stepped = u; others = own.others })) kept) in
        omega (arith, first, none, others, all)
    by u taken true kept k =
        let (p, settled, same) = map_some (λ (p : Passed). (passes_after u.sent p).tried) (settle u.state 2 own.others) last k in
        let first = listed-commits 1 c.outcomes in
        let one : one_if (is_kept own.outcome) ≡ 1 = ap one_if kept in
        let others : commits p.tried.others ≡ commits last.others = ap (λ (v : Tried). commits v.others) same in
        let later = passes-commits (length u.state.outstanding) u.state 2 own.others p settled in
        let all : length (kept_by_message s c n message) ≡ suc (length (kept_by_settling u.state 2 own.others)) = ap length (ap (λ o. if_suits o (λ v. keeps v (is_kept own.outcome))) taken ∙ ap (keeps (record { stepped = u; others = own.others })) kept) in
        omega (arith, first, one, others, later, all)

pub event-commits : (s : State) (c : Choice) (what : Event) (t : Stepped) → happens s c what ≡ Some t → commits c.outcomes ≡ length (kept_by_event s c what)
event-commits s c Open t h = none_left c.outcomes (and_parts (none_listed c.outcomes) (none_drawn c) (when_suits (is_without_choice c) (Some (record { state = with_next_session s; sent = [] })) t h)).0
event-commits s c (Close n cause) t h =
    none_left c.outcomes (and_parts (none_listed c.outcomes) (none_drawn c) (and_parts (is_without_choice c) (is_open s n) (when_suits (is_without_choice c && is_open s n) (Some (closed s n)) t h)).0).0
event-commits s c (Take n message) t h =
    let (last, is, none) = ends-commits (takes_and_settles s c n message) t (when_is (is_open s n) (ends (takes_and_settles s c n message)) t h) in
    omega (arith, take-commits s c n message last is, none)
event-commits s c Tick t h =
    let (last, is, none) = ends-commits (option_map (λ p. p.tried) (settle s 1 c.outcomes)) t (when_is (none_drawn c) (ends (option_map (λ p. p.tried) (settle s 1 c.outcomes))) t h) in
    let (p, settled, same) = map_some (λ (p : Passed). p.tried) (settle s 1 c.outcomes) last is in
    let others : commits p.tried.others ≡ commits last.others = ap (λ (v : Tried). commits v.others) same in
    omega (arith, passes-commits (length s.outstanding) s 1 c.outcomes p settled, none, others)

-- ---- a run

pub commits-append : (xs ys : List Attempt) → commits (xs ++ ys) ≡ commits xs + commits ys
commits-append [] ys = omega arith
commits-append (a ∷ xs) ys = by (is_commit a) (commits-append xs ys)
  where
    by : (b : Bool) → commits (xs ++ ys) ≡ commits xs + commits ys → length (cond b (a ∷ filter is_commit (xs ++ ys)) (filter is_commit (xs ++ ys))) ≡ length (cond b (a ∷ filter is_commit xs) (filter is_commit xs)) + commits ys
    by true h = omega (arith, h)
    by false h = h

pub kept_as_listed : (s : State) (h : List Entry) (t : Stepped) → run s h ≡ Some t → length (kept_by s h) ≡ length (commits_in h)
kept_as_listed s [] t r = refl
kept_as_listed s (e ∷ h) t r =
    let parts = run_parts s e h t r in
    let own : List Database = kept_by_event (at_moment_of e s) e.choice e.event in
    let first = event-commits (at_moment_of e s) e.choice e.event parts.first (when_is (leb s.moment e.choice.moment) (happens (at_moment_of e s) e.choice e.event) parts.first parts.stepped) in
    let later = kept_as_listed parts.first.state h parts.rest parts.runs in
    let all : length (kept_by s (e ∷ h)) ≡ length (own ++ kept_by parts.first.state h) = ap length (ap (λ o. if_suits o (λ (v : Stepped). own ++ kept_by v.state h)) parts.stepped) in
    omega (arith, first, later, all, length-append own (kept_by parts.first.state h), commits-append e.choice.outcomes (flat_map (λ d. d.choice.outcomes) h))
