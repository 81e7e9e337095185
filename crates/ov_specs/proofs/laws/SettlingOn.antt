-- Settling from within: what is still to be done of it, try by try, as a loop does it.
use Rattle.std.proofs.Common.{◌≡◌, ℕ, zero, suc, ◌+◌, ◌≤◌, List, [], ◌∷◌, ◌++◌, Bool, true, false, cond, Option, Some, None, length, leb, refl, sym, ap, ◌∙◌, append_assoc, arith}
use Rattle.std.specs.Prelude.{option_map, option_and_then}
use Rattle.std.specs.List.{list_all}
use Rattle.std.proofs.lemmas.Bool.{and_parts, and_from, eq-eqb, ne_eqb, leb-true, le-leb}
use Rattle.std.proofs.lemmas.List.{append-nil}
use Rattle.ov_specs.specs.machine.Machine.{State, Outcome, Attempt, Outstanding, Sent, Stepped, Tried, Passed, Listed, listed, tries, tries_again, is_kept, is_open, passed, passes_after, waits_after, pass, settle_within, settle}
use Rattle.ov_specs.proofs.laws.Settling.{PassCounts, pass_counts, fewer_left, waiting}
use Rattle.ov_specs.proofs.laws.Tries.{left_by, sent_by, emptied}

-- ---- what was sent before

pub past-nothing : (o : Option Passed) → option_map (passes_after []) o ≡ o
past-nothing None = refl
past-nothing (Some p) = refl

pub after-after : (a b : List Sent) (o : Option Passed) → option_map (passes_after a) (option_map (passes_after b) o) ≡ option_map (passes_after (a ++ b)) o
after-after a b None = refl
after-after a b (Some p) = ap (λ (sent : List Sent). Some (record p { tried = record p.tried { stepped = record p.tried.stepped { sent = sent } } })) (sym (append_assoc a b (sent_by p)))

-- ---- what is listed

-- what is listed of one attempt
abbrev pub made_by : ℕ → Option Outcome → List Attempt
made_by number None = []
made_by number (Some outcome) = record { number = number; outcome = outcome } ∷ []

-- no attempt before this one is listed
abbrev pub AreFrom : ℕ → List Attempt → Type 0
AreFrom number attempts = list_all (λ a. leb number a.number) attempts ≡ true

are_from_before : (number : ℕ) (attempts : List Attempt) → AreFrom (number + 1) attempts → AreFrom number attempts
are_from_before number [] h = refl
are_from_before number (a ∷ attempts) h =
    let parts = and_parts (leb (number + 1) a.number) (list_all (λ x. leb (number + 1) x.number) attempts) h in
    and_from (leb number a.number) (list_all (λ x. leb number x.number) attempts) (le-leb number a.number (omega (arith, leb-true (number + 1) a.number parts.0))) (are_from_before number attempts parts.1)

pub made_are_from : (number : ℕ) (outcome : Option Outcome) (attempts : List Attempt) → AreFrom (number + 1) attempts → AreFrom number (made_by number outcome ++ attempts)
made_are_from number None attempts h = are_from_before number attempts h
made_are_from number (Some outcome) attempts h = and_from (leb number number) (list_all (λ x. leb number x.number) attempts) (le-leb number number (omega arith)) (are_from_before number attempts h)

pub listed-made : (number : ℕ) (outcome : Option Outcome) (attempts : List Attempt) → AreFrom (number + 1) attempts → listed number (made_by number outcome ++ attempts) ≡ record { outcome = outcome; others = attempts }
listed-made number None [] h = refl
listed-made number None (a ∷ attempts) h =
    let parts = and_parts (leb (number + 1) a.number) (list_all (λ x. leb (number + 1) x.number) attempts) h in
    ap (λ b. cond b (record { outcome = Some a.outcome; others = attempts }) (record { outcome = None; others = a ∷ attempts }))
    (ne_eqb a.number number (λ same. omega (arith, same, leb-true (number + 1) a.number parts.0)))
listed-made number (Some outcome) attempts h = ap (λ b. cond b (record { outcome = Some outcome; others = attempts }) (record { outcome = None; others = record { number = number; outcome = outcome } ∷ attempts })) (eq-eqb number number refl)

-- ---- enough passes

none_left : (os : List Outstanding) → length os ≤ 0 → os ≡ []
none_left [] h = refl
none_left (o ∷ os) h = absurd (omega (arith, h))

nothing : (most : ℕ) (s : State) (number : ℕ) (attempts : List Attempt) → s.outstanding ≡ [] → settle_within (suc most) s number attempts ≡ Some (passed s number attempts false)
nothing most s number attempts none =
    ap (λ os. option_and_then then_passes (pass (emptied s) number attempts os)) none
    ∙ ap (λ os. Some (passed (record s { outstanding = os }) number attempts false)) (sym none)
  where
    then_passes : Passed → Option Passed
    then_passes p = cond p.has_changed (option_map (passes_after (sent_by p)) (settle_within most (left_by p) p.next p.tried.others)) (Some p)

-- as many passes as wait are enough
enough : (a b : ℕ) (s : State) (number : ℕ) (attempts : List Attempt) → waiting s ≤ a → waiting s ≤ b → settle_within a s number attempts ≡ settle_within b s number attempts
enough zero zero s number attempts low high = refl
enough zero (suc b) s number attempts low high = sym (nothing b s number attempts (none_left s.outstanding low))
enough (suc a) zero s number attempts low high = nothing a s number attempts (none_left s.outstanding high)
enough (suc a) (suc b) s number attempts low high = by (pass (emptied s) number attempts s.outstanding) refl (λ t n attempts' l r. enough a b t n attempts' l r)
  where
    changed : (p : Passed) → PassCounts (emptied s) number s.outstanding p → (c : Bool) → p.has_changed ≡ c
        → ((t : State) (n : ℕ) (attempts' : List Attempt) → waiting t ≤ a → waiting t ≤ b → settle_within a t n attempts' ≡ settle_within b t n attempts')
        → cond c (option_map (passes_after (sent_by p)) (settle_within a (left_by p) p.next p.tried.others)) (Some p) ≡ cond c (option_map (passes_after (sent_by p)) (settle_within b (left_by p) p.next p.tried.others)) (Some p)
    changed p counts true is same =
        let left = fewer_left s number p counts is in
        ap (option_map (passes_after (sent_by p))) (same (left_by p) p.next p.tried.others (omega (arith, left, low)) (omega (arith, left, high)))
    changed p counts false is same = refl

    by : (r : Option Passed) → pass (emptied s) number attempts s.outstanding ≡ r → ((t : State) (n : ℕ) (attempts' : List Attempt) → waiting t ≤ a → waiting t ≤ b → settle_within a t n attempts' ≡ settle_within b t n attempts')
        → option_and_then (λ p. cond p.has_changed (option_map (passes_after (sent_by p)) (settle_within a (left_by p) p.next p.tried.others)) (Some p)) r
        ≡ option_and_then (λ p. cond p.has_changed (option_map (passes_after (sent_by p)) (settle_within b (left_by p) p.next p.tried.others)) (Some p)) r
    by None is same = refl
    by (Some p) is same = changed p (pass_counts (emptied s) number attempts s.outstanding p is) p.has_changed refl same

-- ---- the rest of settling

-- after a pass that changed the database all that wait are tried again
abbrev pub settles_again : Passed → Option Passed
settles_again p = cond p.has_changed (option_map (passes_after (sent_by p)) (settle (left_by p) p.next p.tried.others)) (Some p)

-- the rest of a pass over these, and all passes after it
abbrev pub settles_on : State → ℕ → List Attempt → List Outstanding → Option Passed
settles_on s number attempts waiting = option_and_then settles_again (pass s number attempts waiting)

-- it begins with all that wait
pub settle-begins : (s : State) (number : ℕ) (attempts : List Attempt) → settle s number attempts ≡ settles_on (emptied s) number attempts s.outstanding
settle-begins s number attempts = enough (waiting s) (suc (waiting s)) s number attempts (omega arith) (omega arith) ∙ by (pass (emptied s) number attempts s.outstanding) refl
  where
    changed : (p : Passed) → PassCounts (emptied s) number s.outstanding p → (c : Bool) → p.has_changed ≡ c
        → cond c (option_map (passes_after (sent_by p)) (settle_within (waiting s) (left_by p) p.next p.tried.others)) (Some p) ≡ cond c (option_map (passes_after (sent_by p)) (settle (left_by p) p.next p.tried.others)) (Some p)
    changed p counts true is =
        let left = fewer_left s number p counts is in
        ap (option_map (passes_after (sent_by p))) (enough (waiting s) (waiting (left_by p)) (left_by p) p.next p.tried.others (omega (arith, left)) (omega arith))
    changed p counts false is = refl

    by : (r : Option Passed) → pass (emptied s) number attempts s.outstanding ≡ r
        → option_and_then (λ p. cond p.has_changed (option_map (passes_after (sent_by p)) (settle_within (waiting s) (left_by p) p.next p.tried.others)) (Some p)) r ≡ option_and_then settles_again r
    by None is = refl
    by (Some p) is = changed p (pass_counts (emptied s) number attempts s.outstanding p is) p.has_changed refl

-- what was sent before stands before all of it
on-after : (sent : List Sent) (r : Option Passed) → option_and_then settles_again (option_map (passes_after sent) r) ≡ option_map (passes_after sent) (option_and_then settles_again r)
on-after sent None = refl
on-after sent (Some p) = by p.has_changed
  where
    by : (c : Bool) → cond c (option_map (passes_after (sent ++ sent_by p)) (settle (left_by p) p.next p.tried.others)) (Some (passes_after sent p))
        ≡ option_map (passes_after sent) (cond c (option_map (passes_after (sent_by p)) (settle (left_by p) p.next p.tried.others)) (Some p))
    by true = sym (after-after sent (sent_by p) (settle (left_by p) p.next p.tried.others))
    by false = refl

-- one whose session was closed is not tried
pub pass-skips : (s : State) (number : ℕ) (attempts : List Attempt) (o : Outstanding) (waiting : List Outstanding) → is_open s o.session ≡ false → pass s number attempts (o ∷ waiting) ≡ pass s number attempts waiting
pass-skips s number attempts o waiting away =
    ap (λ b. cond b
    (option_and_then
    (λ t. option_map (passes_after t.stepped.sent) (cond (is_kept (listed number attempts).outcome) (Some (passed (waits_after t.stepped.state waiting) (number + 1) t.others true)) (pass t.stepped.state (number + 1) t.others waiting)))
    (tries (tries_again s o) number attempts))
    (pass s number attempts waiting))
    away

-- a pass, unrolled at its front
pub pass-tries : (s : State) (number : ℕ) (attempts : List Attempt) (own : Listed) (o : Outstanding) (waiting : List Outstanding) (t : Stepped) → is_open s o.session ≡ true → listed number attempts ≡ own → tries_again s o own.outcome ≡ Some t
    → pass s number attempts (o ∷ waiting) ≡ option_map (passes_after t.sent) (cond (is_kept own.outcome) (Some (passed (waits_after t.state waiting) (number + 1) own.others true)) (pass t.state (number + 1) own.others waiting))
pass-tries s number attempts own o waiting t there list again =
    ap (λ b. cond b (option_and_then (following (listed number attempts)) (tries (tries_again s o) number attempts)) (pass s number attempts waiting)) there
    ∙ (ap (λ (l : Listed). option_and_then (following l) (option_map (λ x. record { stepped = x; others = l.others }) (tries_again s o l.outcome))) list
    ∙ ap (λ r. option_and_then (following own) (option_map (λ x. record { stepped = x; others = own.others }) r)) again)
  where
    following : Listed → Tried → Option Passed
    following l x = option_map (passes_after x.stepped.sent) (cond (is_kept l.outcome) (Some (passed (waits_after x.stepped.state waiting) (number + 1) x.others true)) (pass x.stepped.state (number + 1) x.others waiting))

module _ (s : State) (number : ℕ) (attempts : List Attempt) (own : Listed) (o : Outstanding) (waiting : List Outstanding) (t : Stepped) (there : is_open s o.session ≡ true) (list : listed number attempts ≡ own) (again : tries_again s o own.outcome ≡ Some t) where
  -- one that changes nothing is followed by those after it
  pub on-tries : is_kept own.outcome ≡ false → settles_on s number attempts (o ∷ waiting) ≡ option_map (passes_after t.sent) (settles_on t.state (number + 1) own.others waiting)
  on-tries not_kept =
      ap (option_and_then settles_again) (pass-tries s number attempts own o waiting t there list again ∙ ap (λ b. option_map (passes_after t.sent) (cond b (Some (passed (waits_after t.state waiting) (number + 1) own.others true)) (pass t.state (number + 1) own.others waiting))) not_kept)
      ∙ on-after t.sent (pass t.state (number + 1) own.others waiting)

  -- one that changes the database is followed by the first that waits
  pub on-changes : is_kept own.outcome ≡ true → settles_on s number attempts (o ∷ waiting) ≡ option_map (passes_after t.sent) (settle (waits_after t.state waiting) (number + 1) own.others)
  on-changes kept =
      ap (option_and_then settles_again) (pass-tries s number attempts own o waiting t there list again ∙ ap (λ b. option_map (passes_after t.sent) (cond b (Some (passed (waits_after t.state waiting) (number + 1) own.others true)) (pass t.state (number + 1) own.others waiting))) kept)
      ∙ (on-after t.sent (Some (passed (waits_after t.state waiting) (number + 1) own.others true))
      ∙ ap (option_map (passes_after t.sent)) (past-nothing (settle (waits_after t.state waiting) (number + 1) own.others)))

-- ---- as a loop keeps it

-- where settling has come to: the state, what was sent so far, the number of the next attempt, and those still to be tried
pub record SettlingPoint : Type 0 where
  pub state : State
  pub sent : List Sent
  pub number : ℕ
  pub waiting : List Outstanding

abbrev pub at_point : State → List Sent → ℕ → List Outstanding → SettlingPoint
at_point state sent number waiting = record { state = state; sent = sent; number = number; waiting = waiting }

-- Settling from a state, with what was listed so far and anything listed for this attempt and later ones, comes to what was
-- sent so far and the rest of settling from here.
abbrev pub Reaches : State → ℕ → List Attempt → SettlingPoint → Type 0
Reaches from first made here =
    (more : List Attempt) → AreFrom here.number more
    → settle from first (made ++ more) ≡ option_map (passes_after here.sent) (settles_on here.state here.number more here.waiting)

-- before the first try
pub reaches_first : (s : State) (number : ℕ) → Reaches s number [] (at_point (emptied s) [] number s.outstanding)
reaches_first s number more later = settle-begins s number more ∙ sym (past-nothing (settles_on (emptied s) number more s.outstanding))

module _ (from : State) (first : ℕ) (made : List Attempt) (s : State) (sent : List Sent) (number : ℕ) where
  -- after the last try
  pub reaches_last : Reaches from first made (at_point s sent number []) → settle from first made ≡ Some (record { tried = record { stepped = record { state = s; sent = sent }; others = [] }; next = number; has_changed = false })
  reaches_last reaches =
      ap (settle from first) (sym (append-nil made)) ∙ (reaches [] refl
      ∙ ap (λ (v : List Sent). Some (record { tried = record { stepped = record { state = s; sent = v }; others = [] }; next = number; has_changed = false })) (append-nil sent))

  module _ (o : Outstanding) (waiting : List Outstanding) (reaches : Reaches from first made (at_point s sent number (o ∷ waiting))) where
    -- one whose session was closed is not tried
    pub reaches_skip : is_open s o.session ≡ false → Reaches from first made (at_point s sent number waiting)
    reaches_skip away more later = reaches more later ∙ ap (λ r. option_map (passes_after sent) (option_and_then settles_again r)) (pass-skips s number more o waiting away)

    module _ (outcome : Option Outcome) (t : Stepped) (there : is_open s o.session ≡ true) (again : tries_again s o outcome ≡ Some t) where
      before : (more : List Attempt) → AreFrom (number + 1) more → settle from first ((made ++ made_by number outcome) ++ more) ≡ option_map (passes_after sent) (settles_on s number (made_by number outcome ++ more) (o ∷ waiting))
      before more later = ap (settle from first) (append_assoc made (made_by number outcome) more) ∙ reaches (made_by number outcome ++ more) (made_are_from number outcome more later)

      abbrev own : List Attempt → Listed
      own more = record { outcome = outcome; others = more }

      -- one that changed nothing
      pub reaches_next : is_kept outcome ≡ false → Reaches from first (made ++ made_by number outcome) (at_point t.state (sent ++ t.sent) (number + 1) waiting)
      reaches_next not_kept more later =
          before more later ∙ (ap (option_map (passes_after sent)) (on-tries s number (made_by number outcome ++ more) (own more) o waiting t there (listed-made number outcome more later) again not_kept)
          ∙ after-after sent t.sent (settles_on t.state (number + 1) more waiting))

      -- one that changed the database
      pub reaches_again : is_kept outcome ≡ true → Reaches from first (made ++ made_by number outcome) (at_point (emptied (waits_after t.state waiting)) (sent ++ t.sent) (number + 1) (waits_after t.state waiting).outstanding)
      reaches_again kept more later =
          before more later ∙ (ap (option_map (passes_after sent)) (on-changes s number (made_by number outcome ++ more) (own more) o waiting t there (listed-made number outcome more later) again kept)
          ∙ (after-after sent t.sent (settle (waits_after t.state waiting) (number + 1) more)
          ∙ ap (option_map (passes_after (sent ++ t.sent))) (settle-begins (waits_after t.state waiting) (number + 1) more)))
