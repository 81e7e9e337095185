-- An event makes few attempts.
use Rattle.std.proofs.Common.{◌≡◌, ℕ, ◌-◌, ◌≤◌, List, length, Bool, true, false, cond, Option, Some, None, option_map, refl, ap, subst, ◌∙◌, arith}
use Rattle.std.proofs.lemmas.Bool.{false≢true}
use Rattle.ov_specs.specs.machine.Machine.{State, Event, Open, Take, Close, Tick, Choice, Attempt, Outstanding, Outcome, Stepped, Tried, Passed, Listed, listed, is_kept, settle, takes, Work, works, work_of}
use Rattle.ov_specs.specs.wire.Message.{Message}
use Rattle.ov_specs.proofs.laws.Settling.{settle_counts}
use Rattle.ov_specs.proofs.laws.Tries.{map_some}
use Rattle.ov_specs.proofs.laws.Works.{work_has}
use Rattle.ov_laws.specs.Making.{is_transaction}
use Rattle.ov_laws.specs.Attempts.{count_of, settling_attempts, attempts_after, own_attempts, attempts_of, most_settling, most_attempts}

settling_few : (s : State) (number : ℕ) (attempts : List Attempt) → settling_attempts s number attempts ≤ most_settling (length s.outstanding)
settling_few s number attempts = by (settle s number attempts) refl
  where
    by : (o : Option Passed) → settle s number attempts ≡ o → count_of o (λ p. p.next - number) ≤ most_settling (length s.outstanding)
    by None is = omega arith
    by (Some p) is =
        let counts = settle_counts s number attempts p is in
        omega (arith, counts.up, counts.down)

-- work that is kept leaves those that wait
abbrev pub Waits : State → Bool → Stepped → Type 0
Waits s kept x = kept ≡ true → x.state.outstanding ≡ s.outstanding

none : {B : Type 0} → false ≡ true → B
none is = absurd (false≢true is)

pub work_waits : (s : State) (c : Choice) (n : ℕ) (message : Message) (outcome : Option Outcome) (t : Stepped) → works s n c.draws outcome (work_of s n message) ≡ Some t → Waits s (is_kept outcome) t
work_waits s c n message outcome t h =
    work_has (Waits s) s n c.draws outcome (work_of s n message) t (record {
      closes = λ kept. none kept;
      sends = λ trees kept. none kept;
      transacts = λ id operations is. record {
        sends = λ trees kept. none kept;
        commits = λ results database completes. (λ kept. refl, λ kept. none kept);
        waits = λ timeout waits kept. none kept;
      };
      cancels = λ id is kept. none kept;
      locks = λ call id name is kept. none kept;
      watches = λ id result monitors is kept. none kept;
    }) h

after_few : (s : State) (c : Choice) (n : ℕ) (message : Message) → attempts_after s c n message ≤ most_settling (length s.outstanding)
after_few s c n message = by (takes s c n message) refl
  where
    own : Listed
    own = listed 1 c.outcomes

    settles : Tried → Bool → ℕ
    settles t b = cond b (settling_attempts t.stepped.state 2 t.others) 0

    kept_few : (t : Tried) (b : Bool) → (b ≡ true → t.stepped.state.outstanding ≡ s.outstanding) → settles t b ≤ most_settling (length s.outstanding)
    kept_few t false waits = omega arith
    kept_few t true waits = subst (λ (os : List Outstanding). settling_attempts t.stepped.state 2 t.others ≤ most_settling (length os)) (waits refl) (settling_few t.stepped.state 2 t.others)

    by : (o : Option Tried) → takes s c n message ≡ o → count_of o (λ t. settles t (is_kept own.outcome)) ≤ most_settling (length s.outstanding)
    by None is = omega arith
    by (Some t) is =
        let (u, work, same) = map_some (λ x. record { stepped = x; others = own.others }) (works s n c.draws own.outcome (work_of s n message)) t is in
        kept_few t (is_kept own.outcome) (subst (λ (v : Tried). is_kept own.outcome ≡ true → v.stepped.state.outstanding ≡ s.outstanding) same (work_waits s c n message own.outcome u work))

own_few : (w : Work) → own_attempts w ≤ 1
own_few w = by (is_transaction w)
  where
    by : (b : Bool) → cond b 1 0 ≤ 1
    by true = omega arith
    by false = omega arith

pub event_few : (s : State) (c : Choice) (what : Event) → attempts_of s c what ≤ most_attempts what (length s.outstanding)
event_few s c Open = omega arith
event_few s c (Take n message) = omega (arith, own_few (work_of s n message), after_few s c n message)
event_few s c (Close n cause) = omega arith
event_few s c Tick = settling_few s 1 c.outcomes

-- ---- how many, by what settling comes to

pub settling_makes : (s : State) (number : ℕ) (attempts : List Attempt) (p : Passed) → settle s number attempts ≡ Some p → settling_attempts s number attempts ≡ p.next - number
settling_makes s number attempts p is = ap (λ o. count_of o (λ (p : Passed). p.next - number)) is

-- after work that is not kept nothing is settled
pub unkept_settles_none : (s : State) (c : Choice) (n : ℕ) (message : Message) → is_kept (listed 1 c.outcomes).outcome ≡ false → attempts_after s c n message ≡ 0
unkept_settles_none s c n message unkept = by (takes s c n message)
  where
    by : (o : Option Tried) → count_of o (λ t. cond (is_kept (listed 1 c.outcomes).outcome) (settling_attempts t.stepped.state 2 t.others) 0) ≡ 0
    by None = refl
    by (Some t) = ap (λ b. cond b (settling_attempts t.stepped.state 2 t.others) 0) unkept

-- after work that is kept those that wait are settled
pub kept_settles : (s : State) (c : Choice) (n : ℕ) (message : Message) (u : Stepped) (p : Passed) → is_kept (listed 1 c.outcomes).outcome ≡ true
    → works s n c.draws (listed 1 c.outcomes).outcome (work_of s n message) ≡ Some u → settle u.state 2 (listed 1 c.outcomes).others ≡ Some p → attempts_after s c n message ≡ p.next - 2
kept_settles s c n message u p kept work settled =
    ap (λ o. count_of (option_map (λ x. record { stepped = x; others = (listed 1 c.outcomes).others }) o) (λ (t : Tried). cond (is_kept (listed 1 c.outcomes).outcome) (settling_attempts t.stepped.state 2 t.others) 0)) work
    ∙ (ap (λ b. cond b (settling_attempts u.state 2 (listed 1 c.outcomes).others) 0) kept ∙ settling_makes u.state 2 (listed 1 c.outcomes).others p settled)
