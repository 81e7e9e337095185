-- Settling comes to what its relation relates, and to nothing else.
use Rattle.std.proofs.Common.{◌≡◌, ◌≢◌, ◌↔◌, ℕ, zero, suc, ◌+◌, ◌≤◌, List, [], ◌∷◌, ◌++◌, filter, length, length-append, Bool, true, false, cond, eqb, Option, Some, None, option_map, option_and_then, inl, inr, refl, sym, ap, ap₂, subst, ◌∙◌, arith}
use Rattle.std.specs.Prelude.{not}
use Rattle.std.specs.List.{list_all}
use Rattle.std.proofs.lemmas.Bool.{and_parts, and_from, false≢true}
use Rattle.std.proofs.lemmas.List.Elements.{filter-append}
use Rattle.std.proofs.lemmas.Option.{same_Some}
use Rattle.ov_specs.specs.machine.Machine.{State, Outcome, Attempt, Outstanding, Stepped, Tried, Passed, Listed, listed, passed, passes_after, still_waiting, waits_after, waits_on, tries_again, is_kept, is_open, pass, settle}
use Rattle.ov_specs.proofs.laws.Settling.{IsNoMore, no_more-same, no_more-closed}
use Rattle.ov_specs.proofs.laws.SettlingOn.{settles_on, settles_again, settle-begins, pass-skips, on-tries, on-changes}
use Rattle.ov_specs.proofs.laws.Tries.{emptied, map_some, then_some, pass_first}
use Rattle.ov_specs.proofs.laws.Works.{try_has}
use Rattle.ov_specs.specs.machine.Settling.{Settles, ends, goes_on, begins_again, IsSettling}
use Rattle.ov_laws.proofs.Attempts.{try_is, other_database}

-- ---- lists

-- what is kept by one test, of what another keeps that keeps all of these
pub filter-within : {A : Type 0} (p q : A → Bool) → ((x : A) → p x ≡ true → q x ≡ true) → (xs : List A) → filter p (filter q xs) ≡ filter p xs
filter-within p q so [] = refl
filter-within p q so (x ∷ xs) = by (q x) refl (p x) refl (filter-within p q so xs)
  where
    by : (b : Bool) → q x ≡ b → (c : Bool) → p x ≡ c → filter p (filter q xs) ≡ filter p xs → filter p (cond b (x ∷ filter q xs) (filter q xs)) ≡ cond (p x) (x ∷ filter p xs) (filter p xs)
    by true in_q c in_p rest = ap (λ l. cond (p x) (x ∷ l) l) rest
    by false in_q true in_p rest = absurd (false≢true (sym in_q ∙ so x in_p))
    by false in_q false in_p rest = rest ∙ sym (ap (λ c. cond c (x ∷ filter p xs) (filter p xs)) in_p)

all-filter : {A : Type 0} (p : A → Bool) (xs : List A) → list_all p (filter p xs) ≡ true
all-filter p [] = refl
all-filter p (x ∷ xs) = by (p x) refl (all-filter p xs)
  where
    by : (b : Bool) → p x ≡ b → list_all p (filter p xs) ≡ true → list_all p (cond b (x ∷ filter p xs) (filter p xs)) ≡ true
    by true is rest = and_from (p x) (list_all p (filter p xs)) is rest
    by false is rest = rest

length-filter : {A : Type 0} (p : A → Bool) (xs : List A) → length (filter p xs) ≤ length xs
length-filter p [] = omega arith
length-filter p (x ∷ xs) = by (p x) (length-filter p xs)
  where
    by : (b : Bool) → length (filter p xs) ≤ length xs → length (cond b (x ∷ filter p xs) (filter p xs)) ≤ length (x ∷ xs)
    by true h = omega (arith, h)
    by false h = omega (arith, h)

-- ---- one try

abbrev pub of_open : State → Outstanding → Bool
of_open s o = is_open s o.session

-- a try opens no session
pub opens_none : (s : State) (o : Outstanding) (outcome : Option Outcome) (t : Stepped) → tries_again s o outcome ≡ Some t → (n : ℕ) → is_open t.state n ≡ true → is_open s n ≡ true
opens_none s o outcome t h =
    (try_has (λ kept x. IsNoMore s x.state) s o outcome t (no_more-closed s o.session) (record {
      sends = λ trees. no_more-same s s refl refl refl refl;
      commits = λ results database is. (no_more-same s (record s { database = database }) refl refl refl refl, no_more-same s (record s { sealed = Some database }) refl refl refl refl);
      waits = λ timeout is. no_more-same s (waits_on s o timeout) refl refl refl refl;
    }) h).still_open

-- how many wait after it: one that is kept leaves those that wait
abbrev one_if : Bool → ℕ
one_if b = cond b 1 0

waits_few : (s : State) (o : Outstanding) (outcome : Option Outcome) (t : Stepped) → tries_again s o outcome ≡ Some t → length t.state.outstanding + one_if (is_kept outcome) ≤ length s.outstanding + 1
waits_few s o outcome t h =
    try_has (λ kept x. length x.state.outstanding + one_if kept ≤ length s.outstanding + 1) s o outcome t (omega (arith, length-filter (λ (x : Outstanding). not (eqb x.session o.session)) s.outstanding)) (record {
      sends = λ trees. omega arith;
      commits = λ results database is. (omega arith, omega arith);
      waits = λ timeout is. omega (arith, length-append s.outstanding (record o { timeout = timeout } ∷ []));
    }) h

-- its database is another exactly if the store kept it
abbrev pub Changes : State → Bool → Stepped → Type 0
Changes s true x = x.state.database ≢ s.database
Changes s false x = x.state.database ≡ s.database

pub try_changes : (s : State) (o : Outstanding) (outcome : Option Outcome) (t : Stepped) → tries_again s o outcome ≡ Some t → Changes s (is_kept outcome) t
try_changes s o outcome t h =
    try_is (λ outcome'. Changes s (is_kept outcome')) s o refl (record {
      same = λ results database completes same. refl;
      refused = λ results error. (refl, refl);
      changed = λ results database completes changes unsealed. (λ is. other_database s.database database changes (sym is), refl);
      waits = λ timeout waits. refl;
    }) outcome t h

-- a database that is as before was not kept, and another was
unkept : (s : State) (kept : Bool) (t : Stepped) → Changes s kept t → t.state.database ≡ s.database → kept ≡ false
unkept s true t changes same = absurd (changes same)
unkept s false t changes same = refl

was_kept : (s : State) (kept : Bool) (t : Stepped) → Changes s kept t → t.state.database ≢ s.database → kept ≡ true
was_kept s true t changes other = refl
was_kept s false t changes other = absurd (other changes)

-- ---- those whose session was closed

-- they are not tried, so it is the same without them
pub pass-open : (q : Outstanding → Bool) (w : List Outstanding) (s : State) (number : ℕ) (attempts : List Attempt) → ((o : Outstanding) → is_open s o.session ≡ true → q o ≡ true) → pass s number attempts (filter q w) ≡ pass s number attempts w
pass-open q [] s number attempts so = refl
pass-open q (o ∷ w) s number attempts so = by (q o) refl (pass-open q w s number attempts so) (λ t n more so'. pass-open q w t n more so')
  where
    own : Listed
    own = listed number attempts

    tried : Stepped → Tried
    tried t = record { stepped = t; others = own.others }

    following : List Outstanding → Tried → Option Passed
    following l x = option_map (passes_after x.stepped.sent) (cond (is_kept own.outcome) (Some (passed (waits_after x.stepped.state l) (number + 1) x.others true)) (pass x.stepped.state (number + 1) x.others l))

    first : ((t : State) (n : ℕ) (more : List Attempt) → ((x : Outstanding) → is_open t x.session ≡ true → q x ≡ true) → pass t n more (filter q w) ≡ pass t n more w)
        → (r : Option Stepped) → tries_again s o own.outcome ≡ r → option_and_then (following (filter q w)) (option_map tried r) ≡ option_and_then (following w) (option_map tried r)
    first again None is = refl
    first again (Some t) is =
        let so' : (x : Outstanding) → is_open t.state x.session ≡ true → q x ≡ true = λ x there. so x (opens_none s o own.outcome t is x.session there) in
        ap₂ (λ x y. option_map (passes_after t.sent) (cond (is_kept own.outcome) x y))
        (ap (λ (l : List Outstanding). Some (passed (record t.state { outstanding = t.state.outstanding ++ l }) (number + 1) own.others true)) (filter-within (of_open t.state) q so' w))
        (again t.state (number + 1) own.others so')

    away : q o ≡ false → (b : Bool) → is_open s o.session ≡ b → b ≡ false
    away not_q true there = absurd (false≢true (sym not_q ∙ so o there))
    away not_q false there = refl

    by : (b : Bool) → q o ≡ b → pass s number attempts (filter q w) ≡ pass s number attempts w
        → ((t : State) (n : ℕ) (more : List Attempt) → ((x : Outstanding) → is_open t x.session ≡ true → q x ≡ true) → pass t n more (filter q w) ≡ pass t n more w)
        → pass s number attempts (cond b (o ∷ filter q w) (filter q w)) ≡ pass s number attempts (o ∷ w)
    by true is rest again = ap₂ (λ x y. cond (is_open s o.session) x y) (first again (tries_again s o own.outcome) refl) rest
    by false is rest again = rest ∙ sym (pass-skips s number attempts o w (away is (is_open s o.session) refl))

on-open : (s : State) (number : ℕ) (attempts : List Attempt) (w : List Outstanding) → settles_on s number attempts (still_waiting s w) ≡ settles_on s number attempts w
on-open s number attempts w = ap (option_and_then settles_again) (pass-open (of_open s) w s number attempts (λ o there. there))

-- those that still wait are of open sessions
pub waiting-open : (s : State) (q : Outstanding → Bool) → ((o : Outstanding) → is_open s o.session ≡ true → q o ≡ true) → (a b : List Outstanding) → still_waiting s (a ++ filter q b) ≡ still_waiting s (a ++ b)
waiting-open s q so a b =
    filter-append (of_open s) a (filter q b) ∙ (ap (λ l. still_waiting s a ++ l) (filter-within (of_open s) q so b) ∙ sym (filter-append (of_open s) a b))

-- ---- what the relation relates is what settling comes to

begins-again : (t : State) (number : ℕ) (attempts : List Attempt) (w : List Outstanding)
    → settle (waits_after t w) number attempts ≡ settles_on (emptied t) number attempts (still_waiting t (t.outstanding ++ w))
begins-again t number attempts w =
    settle-begins (waits_after t w) number attempts
    ∙ (sym (on-open (emptied t) number attempts (t.outstanding ++ still_waiting t w))
    ∙ ap (settles_on (emptied t) number attempts) (waiting-open t (of_open t) (λ o there. there) t.outstanding w))

comes_to : (s : State) (w : List Outstanding) (number : ℕ) (attempts : List Attempt) (p : Passed) → Settles s w number attempts p → list_all (of_open s) w ≡ true → settles_on s number attempts w ≡ Some p
comes_to s w number attempts p (ends _ _ _) open' = refl
comes_to s w number attempts p (goes_on _ o rest _ _ t q again same on) open' =
    let own : Listed = listed number attempts in
    let not_kept = unkept s (is_kept own.outcome) t (try_changes s o own.outcome t again) same in
    on-tries s number attempts own o rest t (and_parts (of_open s o) (list_all (of_open s) rest) open').0 refl again not_kept
    ∙ ap (option_map (passes_after t.sent)) (sym (on-open t.state (number + 1) own.others rest) ∙ comes_to t.state (still_waiting t.state rest) (number + 1) own.others q on (all-filter (of_open t.state) rest))
comes_to s w number attempts p (begins_again _ o rest _ _ t q again other on) open' =
    let own : Listed = listed number attempts in
    let kept = was_kept s (is_kept own.outcome) t (try_changes s o own.outcome t again) other in
    on-changes s number attempts own o rest t (and_parts (of_open s o) (list_all (of_open s) rest) open').0 refl again kept
    ∙ ap (option_map (passes_after t.sent)) (begins-again t.state (number + 1) own.others rest
    ∙ comes_to (emptied t.state) (still_waiting t.state (t.state.outstanding ++ rest)) (number + 1) own.others q on (all-filter (of_open t.state) (t.state.outstanding ++ rest)))

-- ---- what settling comes to is related

-- up to this number of transactions
abbrev Relates : ℕ → Type 0
Relates most = (s : State) (w : List Outstanding) (number : ℕ) (attempts : List Attempt) (p : Passed) → length s.outstanding + length w ≤ most → settles_on s number attempts w ≡ Some p → Settles s (still_waiting s w) number attempts p

relates-end : (s : State) (number : ℕ) (attempts : List Attempt) (p : Passed) → settles_on s number attempts [] ≡ Some p → Settles s [] number attempts p
relates-end s number attempts p h = subst (Settles s [] number attempts) (same_Some (passed s number attempts false) p h) (ends s number attempts)

relates-one : (most : ℕ) → Relates most → (w : List Outstanding) (s : State) (number : ℕ) (attempts : List Attempt) (p : Passed) → length s.outstanding + length w ≤ suc most → settles_on s number attempts w ≡ Some p
    → Settles s (still_waiting s w) number attempts p
relates-one most fewer [] s number attempts p few h = relates-end s number attempts p h
relates-one most fewer (o ∷ w) s number attempts p few h = by (is_open s o.session) refl (λ t n more q few' on. relates-one most fewer w t n more q few' on)
  where
    own : Listed
    own = listed number attempts

    Rest : Type 0
    Rest = (t : State) (n : ℕ) (more : List Attempt) (q : Passed) → length t.outstanding + length w ≤ suc most → settles_on t n more w ≡ Some q → Settles t (still_waiting t w) n more q

    tried : is_open s o.session ≡ true → Rest → (t : Stepped) → tries_again s o own.outcome ≡ Some t → (kept : Bool) → is_kept own.outcome ≡ kept → Settles s (o ∷ still_waiting s w) number attempts p
    tried there rest t again false not_kept =
        let (q, on, is) = map_some (passes_after t.sent) (settles_on t.state (number + 1) own.others w) p (sym (on-tries s number attempts own o w t there refl again not_kept) ∙ h) in
        let changes : Changes s false t = subst (λ b. Changes s b t) not_kept (try_changes s o own.outcome t again) in
        let so : (x : Outstanding) → is_open t.state x.session ≡ true → is_open s x.session ≡ true = λ x. opens_none s o own.outcome t again x.session in
        let later = rest t.state (number + 1) own.others q (omega (arith, few, waits_few s o own.outcome t again, ap one_if not_kept)) on in
        subst (Settles s (o ∷ still_waiting s w) number attempts) is
        (goes_on s o (still_waiting s w) number attempts t q again changes
        (subst (λ l. Settles t.state l (number + 1) own.others q) (sym (filter-within (of_open t.state) (of_open s) so w)) later))
    tried there rest t again true kept =
        let (q, on, is) = map_some (passes_after t.sent) (settle (waits_after t.state w) (number + 1) own.others) p (sym (on-changes s number attempts own o w t there refl again kept) ∙ h) in
        let changes : Changes s true t = subst (λ b. Changes s b t) kept (try_changes s o own.outcome t again) in
        let so : (x : Outstanding) → is_open t.state x.session ≡ true → is_open s x.session ≡ true = λ x. opens_none s o own.outcome t again x.session in
        let all : List Outstanding = t.state.outstanding ++ still_waiting t.state w in
        let later = fewer (emptied t.state) all (number + 1) own.others q
        (omega (arith, few, waits_few s o own.outcome t again, ap one_if kept, length-append t.state.outstanding (still_waiting t.state w), length-filter (of_open t.state) w))
        (sym (settle-begins (waits_after t.state w) (number + 1) own.others) ∙ on) in
        subst (Settles s (o ∷ still_waiting s w) number attempts) is
        (begins_again s o (still_waiting s w) number attempts t q again changes
        (subst (λ l. Settles (emptied t.state) l (number + 1) own.others q)
        (waiting-open t.state (of_open t.state) (λ x there'. there') t.state.outstanding w ∙ sym (waiting-open t.state (of_open s) so t.state.outstanding w)) later))

    first : is_open s o.session ≡ true → Rest → Settles s (o ∷ still_waiting s w) number attempts p
    first there rest =
        let (q, is, then) = then_some settles_again (pass s number attempts (o ∷ w)) p h in
        elim (pass_first s number attempts o w q is) [
          | inl skipped ↦ absurd (false≢true (sym skipped.0 ∙ there))
          | inr x ↦ tried there rest x.first x.try (is_kept own.outcome) refl
        ]

    by : (b : Bool) → is_open s o.session ≡ b → Rest → Settles s (cond b (o ∷ still_waiting s w) (still_waiting s w)) number attempts p
    by true there rest = first there rest
    by false away rest =
        rest s number attempts p (omega (arith, few)) (sym (ap (option_and_then settles_again) (pass-skips s number attempts o w away)) ∙ h)

relates : (most : ℕ) → Relates most
relates zero s [] number attempts p few h = relates-end s number attempts p h
relates zero s (o ∷ w) number attempts p few h = absurd (omega (arith, few))
relates (suc most) s w number attempts p few h = relates-one most (relates most) w s number attempts p few h

-- ---- the law

pub settling_is : (s : State) (number : ℕ) (attempts : List Attempt) (p : Passed) → IsSettling s number attempts p ↔ (settle s number attempts ≡ Some p)
settling_is s number attempts p = (
  λ related. settle-begins s number attempts ∙ (sym (on-open (emptied s) number attempts s.outstanding) ∙ comes_to (emptied s) (still_waiting s s.outstanding) number attempts p related (all-filter (of_open s) s.outstanding)),
  λ is. relates (length s.outstanding) (emptied s) s.outstanding number attempts p (omega arith) (sym (settle-begins s number attempts) ∙ is),
)
