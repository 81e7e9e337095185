-- Settling, try by try: a pass by its first try, settling by its first pass, and that what each try keeps, settling keeps.
use Rattle.std.proofs.Common.{◌≡◌, ℕ, zero, suc, ◌+◌, List, [], ◌∷◌, ◌++◌, Bool, true, false, cond, Option, Some, None, ◌⊎◌, inl, inr, length, refl, sym, ap, subst, ◌∙◌, append_assoc}
use Rattle.std.specs.Prelude.{option_map, option_and_then}
use Rattle.std.specs.List.{list_all}
use Rattle.std.proofs.lemmas.Bool.{and_parts}
use Rattle.std.proofs.lemmas.List.{append-nil}
use Rattle.std.proofs.lemmas.Option.{same_Some}
use Rattle.ov_specs.specs.machine.Machine.{State, Choice, Outcome, Attempt, Outstanding, Sent, Stepped, Tried, Passed, Listed, listed, tries, tries_again, is_kept, is_open, passed, passes_after, waits_after, pass, settle_within, settle, work_of, works, takes, then_settles, takes_and_settles, ends, none_listed}
use Rattle.ov_specs.specs.wire.Message.{Message}
use Rattle.ov_specs.proofs.laws.Works.{when_is}

-- ---- answers that are made of answers

pub map_some : {A B : Type 0} (f : A → B) (o : Option A) (y : B) → option_map f o ≡ Some y → (x : A) × (o ≡ Some x) × (f x ≡ y)
map_some f None y h = cc
map_some f (Some x) y h = (x, refl, same_Some (f x) y h)

pub then_some : {A B : Type 0} (f : A → Option B) (o : Option A) (y : B) → option_and_then f o ≡ Some y → (x : A) × (o ≡ Some x) × (f x ≡ Some y)
then_some f None y h = cc
then_some f (Some x) y h = (x, refl, h)

-- ---- a pass by its first try

-- where it leads, what was sent, and how many wait then
abbrev pub left_by : Passed → State
left_by p = p.tried.stepped.state

abbrev pub sent_by : Passed → List Sent
sent_by p = p.tried.stepped.sent

-- what comes after the first try: the pass ends with a change, or goes on
abbrev pub GoesOn : Stepped → ℕ → Listed → List Outstanding → Passed → Type 0
GoesOn first number own waiting rest =
    ((is_kept own.outcome ≡ true) × (passed (waits_after first.state waiting) (number + 1) own.others true ≡ rest))
    ⊎ ((is_kept own.outcome ≡ false) × (pass first.state (number + 1) own.others waiting ≡ Some rest))

-- the first is tried
pub record TriesFirst (s : State) (number : ℕ) (attempts : List Attempt) (o : Outstanding) (waiting : List Outstanding) (p : Passed) : Type 0 where
  pub open' : is_open s o.session ≡ true
  pub first : Stepped
  pub try : tries_again s o (listed number attempts).outcome ≡ Some first
  pub rest : Passed
  pub goes_on : GoesOn first number (listed number attempts) waiting rest
  pub is : passes_after first.sent rest ≡ p

pub pass_first : (s : State) (number : ℕ) (attempts : List Attempt) (o : Outstanding) (waiting : List Outstanding) (p : Passed) → pass s number attempts (o ∷ waiting) ≡ Some p
    → ((is_open s o.session ≡ false) × (pass s number attempts waiting ≡ Some p)) ⊎ TriesFirst s number attempts o waiting p
pass_first s number attempts o waiting p h = by (is_open s o.session) refl h
  where
    own : Listed
    own = listed number attempts

    following : Tried → Option Passed
    following t = option_map (passes_after t.stepped.sent) (cond (is_kept own.outcome) (Some (passed (waits_after t.stepped.state waiting) (number + 1) t.others true)) (pass t.stepped.state (number + 1) t.others waiting))

    goes : (t : Stepped) (rest : Passed) (k : Bool) → is_kept own.outcome ≡ k → cond k (Some (passed (waits_after t.state waiting) (number + 1) own.others true)) (pass t.state (number + 1) own.others waiting) ≡ Some rest → GoesOn t number own waiting rest
    goes t rest true is k = inl (is, same_Some (passed (waits_after t.state waiting) (number + 1) own.others true) rest k)
    goes t rest false is k = inr (is, k)

    first : is_open s o.session ≡ true → option_and_then following (tries (tries_again s o) number attempts) ≡ Some p → TriesFirst s number attempts o waiting p
    first there k =
        let (tried, tries, then_is) = then_some following (option_map (λ t. record { stepped = t; others = own.others }) (tries_again s o own.outcome)) p k in
        let (t, again, is) = map_some (λ t. record { stepped = t; others = own.others }) (tries_again s o own.outcome) tried tries in
        let (rest, cases, last) =
        map_some (passes_after t.sent) (cond (is_kept own.outcome) (Some (passed (waits_after t.state waiting) (number + 1) own.others true)) (pass t.state (number + 1) own.others waiting)) p
        (subst (λ v. following v ≡ Some p) (sym is) then_is) in
        record { open' = there; first = t; try = again; rest = rest; goes_on = goes t rest (is_kept own.outcome) refl cases; is = last }

    by : (b : Bool) → is_open s o.session ≡ b → cond b (option_and_then following (tries (tries_again s o) number attempts)) (pass s number attempts waiting) ≡ Some p
        → ((is_open s o.session ≡ false) × (pass s number attempts waiting ≡ Some p)) ⊎ TriesFirst s number attempts o waiting p
    by true there k = inr (first there k)
    by false away k = inl (away, k)

-- none waits
abbrev pub emptied : State → State
emptied s = record s { outstanding = [] }

-- settling by its first pass
pub record PassesFirst (most : ℕ) (s : State) (number : ℕ) (attempts : List Attempt) (p : Passed) : Type 0 where
  pub first : Passed
  pub pass : pass (emptied s) number attempts s.outstanding ≡ Some first
  pub goes_on : ((first.has_changed ≡ true) × (rest : Passed) × (settle_within most (left_by first) first.next first.tried.others ≡ Some rest) × (passes_after (sent_by first) rest ≡ p)) ⊎ ((first.has_changed ≡ false) × (first ≡ p))

pub settle_first : (most : ℕ) (s : State) (number : ℕ) (attempts : List Attempt) (p : Passed) → settle_within (suc most) s number attempts ≡ Some p → PassesFirst most s number attempts p
settle_first most s number attempts p h =
    let (first, is, k) = then_some following (pass (emptied s) number attempts s.outstanding) p h in
    record { first = first; pass = is; goes_on = by first first.has_changed refl k }
  where
    following : Passed → Option Passed
    following f = cond f.has_changed (option_map (passes_after (sent_by f)) (settle_within most (left_by f) f.next f.tried.others)) (Some f)

    by : (f : Passed) (b : Bool) → f.has_changed ≡ b → cond b (option_map (passes_after (sent_by f)) (settle_within most (left_by f) f.next f.tried.others)) (Some f) ≡ Some p
        → ((f.has_changed ≡ true) × (rest : Passed) × (settle_within most (left_by f) f.next f.tried.others ≡ Some rest) × (passes_after (sent_by f) rest ≡ p)) ⊎ ((f.has_changed ≡ false) × (f ≡ p))
    by f true is k =
        let (rest, on, last) = map_some (passes_after (sent_by f)) (settle_within most (left_by f) f.next f.tried.others) p k in
        inl (is, rest, on, last)
    by f false is k = inr (is, same_Some f p k)

-- ---- what each try keeps

-- What holds of a state and of all that was sent on the way to it is kept by each try of a transaction that passes the test,
-- and by setting those that wait aside and back again.
pub record IsKeptByTries (I : State → List Sent → Type 0) (test : Outstanding → Bool) : Type 0 where
  pub aside : (s : State) (sent : List Sent) → I s sent → I (emptied s) sent × (list_all test s.outstanding ≡ true)
  pub back : (s : State) (sent : List Sent) (waiting : List Outstanding) → I s sent → list_all test waiting ≡ true → I (waits_after s waiting) sent
  pub tries : (s : State) (sent : List Sent) (o : Outstanding) (outcome : Option Outcome) (t : Stepped) → I s sent → test o ≡ true → is_open s o.session ≡ true → tries_again s o outcome ≡ Some t
      → I t.state (sent ++ t.sent)

module _ (I : State → List Sent → Type 0) (test : Outstanding → Bool) (kept : IsKeptByTries I test) where
  -- sent after it
  abbrev Then : List Sent → Passed → Type 0
  Then sent p = I (left_by p) (sent ++ sent_by p)

  further : (sent : List Sent) (first : Stepped) (rest p : Passed) → passes_after first.sent rest ≡ p → Then (sent ++ first.sent) rest → Then sent p
  further sent first rest p is h = subst (Then sent) is (subst (I (left_by rest)) (append_assoc sent first.sent (sent_by rest)) h)

  pub pass_keeps : (s : State) (sent : List Sent) (number : ℕ) (attempts : List Attempt) (waiting : List Outstanding) (p : Passed) → I s sent → list_all test waiting ≡ true → pass s number attempts waiting ≡ Some p
      → I (left_by p) (sent ++ sent_by p)
  pass_keeps s sent number attempts [] p holds all h = subst (Then sent) (same_Some (passed s number attempts false) p h) (subst (I s) (sym (append-nil sent)) holds)
  pass_keeps s sent number attempts (o ∷ waiting) p holds all h =
      let (own, others) = and_parts (test o) (list_all test waiting) all in
      elim (pass_first s number attempts o waiting p h) [
        | inl skipped ↦ pass_keeps s sent number attempts waiting p holds others skipped.1
        | inr x ↦
            let after : I x.first.state (sent ++ x.first.sent) = kept.tries s sent o (listed number attempts).outcome x.first holds own x.open' x.try in
            further sent x.first x.rest p x.is (elim x.goes_on [
              | inl ends ↦ subst (Then (sent ++ x.first.sent)) ends.1 (subst (I (waits_after x.first.state waiting)) (sym (append-nil (sent ++ x.first.sent))) (kept.back x.first.state (sent ++ x.first.sent) waiting after others))
              | inr on ↦ pass_keeps x.first.state (sent ++ x.first.sent) (number + 1) (listed number attempts).others waiting x.rest after others on.1
            ])
      ]

  pub settle_within_keeps : (most : ℕ) (s : State) (sent : List Sent) (number : ℕ) (attempts : List Attempt) (p : Passed) → I s sent → settle_within most s number attempts ≡ Some p → I (left_by p) (sent ++ sent_by p)
  settle_within_keeps zero s sent number attempts p holds h = subst (Then sent) (same_Some (passed s number attempts false) p h) (subst (I s) (sym (append-nil sent)) holds)
  settle_within_keeps (suc most) s sent number attempts p holds h =
      let x = settle_first most s number attempts p h in
      let (holds', all) = kept.aside s sent holds in
      let after : I (left_by x.first) (sent ++ sent_by x.first) = pass_keeps (emptied s) sent number attempts s.outstanding x.first holds' all x.pass in
      elim x.goes_on [
        | inl (changed, rest, on, is) ↦ further sent x.first.tried.stepped rest p is (settle_within_keeps most (left_by x.first) (sent ++ sent_by x.first) x.first.next x.first.tried.others rest after on)
        | inr (same, is) ↦ subst (Then sent) is after
      ]

  -- what holds before settling, and is kept by each try, holds after it
  pub settle_keeps : (s : State) (number : ℕ) (attempts : List Attempt) (p : Passed) → I s [] → settle s number attempts ≡ Some p → I (left_by p) (sent_by p)
  settle_keeps s number attempts p holds h = settle_within_keeps (length s.outstanding) s [] number attempts p holds h

-- ---- the work on a message, and the tries that it leads to

-- an event that ends
pub ends_some : (o : Option Tried) (t : Stepped) → ends o ≡ Some t → (x : Tried) × (o ≡ Some x) × (x.stepped ≡ t)
ends_some None t h = cc
ends_some (Some x) t h = (x, refl, same_Some x.stepped t (when_is (none_listed x.others) (Some x.stepped) t h))

-- The work is done, and if it changed the database, those that wait are tried after it.
pub record TakesFirst (s : State) (c : Choice) (n : ℕ) (message : Message) (t : Stepped) : Type 0 where
  pub first : Stepped
  pub work : works s n c.draws (listed 1 c.outcomes).outcome (work_of s n message) ≡ Some first
  pub goes_on : ((is_kept (listed 1 c.outcomes).outcome ≡ false) × (first ≡ t))
      ⊎ ((is_kept (listed 1 c.outcomes).outcome ≡ true) × (p : Passed) × (settle first.state 2 (listed 1 c.outcomes).others ≡ Some p) × ((passes_after first.sent p).tried.stepped ≡ t))

pub takes_first : (s : State) (c : Choice) (n : ℕ) (message : Message) (t : Stepped) → ends (takes_and_settles s c n message) ≡ Some t → TakesFirst s c n message t
takes_first s c n message t h =
    let (last, both, is) = ends_some (takes_and_settles s c n message) t h in
    let (tried, taken, settles) = then_some (then_settles (is_kept own.outcome)) (takes s c n message) last both in
    let (u, work, same) = map_some (λ x. record { stepped = x; others = own.others }) (works s n c.draws own.outcome (work_of s n message)) tried taken in
    record { first = u; work = work; goes_on = by u last is (is_kept own.outcome) refl (subst (λ (v : Tried). then_settles (is_kept own.outcome) v ≡ Some last) (sym same) settles) }
  where
    own : Listed
    own = listed 1 c.outcomes

    by : (u : Stepped) (last : Tried) → last.stepped ≡ t → (b : Bool) → is_kept own.outcome ≡ b → then_settles b (record { stepped = u; others = own.others }) ≡ Some last
        → ((is_kept own.outcome ≡ false) × (u ≡ t)) ⊎ ((is_kept own.outcome ≡ true) × (p : Passed) × (settle u.state 2 own.others ≡ Some p) × ((passes_after u.sent p).tried.stepped ≡ t))
    by u last is false kept k = inl (kept, ap (λ (v : Tried). v.stepped) (same_Some (record { stepped = u; others = own.others }) last k) ∙ is)
    by u last is true kept k =
        let (p, settled, same) = map_some (λ p. (passes_after u.sent p).tried) (settle u.state 2 own.others) last k in
        inr (kept, p, settled, ap (λ (v : Tried). v.stepped) same ∙ is)

-- time passes, and those that wait are tried
pub tick_first : (s : State) (c : Choice) (t : Stepped) → ends (option_map (λ p. p.tried) (settle s 1 c.outcomes)) ≡ Some t → (p : Passed) × (settle s 1 c.outcomes ≡ Some p) × (p.tried.stepped ≡ t)
tick_first s c t h =
    let (last, some, is) = ends_some (option_map (λ p. p.tried) (settle s 1 c.outcomes)) t h in
    let (p, settled, same) = map_some (λ p. p.tried) (settle s 1 c.outcomes) last some in
    (p, settled, ap (λ (v : Tried). v.stepped) same ∙ is)
