-- Each attempt that is listed has a number of the attempts that its event may make.
use Rattle.std.proofs.Common.{◌≡◌, ℕ, zero, suc, ◌+◌, ◌≤◌, List, [], ◌∷◌, Bool, true, false, cond, eqb, leb, length, Option, Some, None, option_map, inl, inr, refl, sym, ap, subst, arith}
use Rattle.std.specs.Prelude.{◌&&◌}
use Rattle.std.specs.List.{list_all}
use Rattle.std.proofs.lemmas.Bool.{and_parts, and_from, eqb-true, le-leb}
use Rattle.std.proofs.lemmas.Option.{same_Some}
use Rattle.ov_specs.specs.machine.Machine.{State, Event, Open, Take, Close, Tick, Choice, Attempt, Outstanding, Stepped, Tried, Passed, Listed, listed, is_kept, is_open, is_without_choice, none_drawn, none_listed, passed, passes_after, pass, settle_within, settle, takes, then_settles, takes_and_settles, ends, happens, works, work_of, closed, with_next_session}
use Rattle.ov_specs.specs.wire.Message.{Message}
use Rattle.ov_specs.proofs.laws.Settling.{pass_counts, settle_counts}
use Rattle.ov_specs.proofs.laws.Tries.{left_by, emptied, map_some, then_some, pass_first, settle_first}
use Rattle.ov_specs.proofs.laws.Works.{when_is, when_suits}
use Rattle.ov_laws.specs.Attempts.{most_settling, most_attempts}
use Rattle.ov_laws.proofs.Few.{work_waits}

module _ (k : ℕ) where
  -- each of these has a number up to k
  abbrev pub AreBelow : List Attempt → Type 0
  AreBelow attempts = list_all (λ a. leb a.number k) attempts ≡ true

  pub listed-below : (number : ℕ) (attempts : List Attempt) → number ≤ k → AreBelow (listed number attempts).others → AreBelow attempts
  listed-below number [] low h = refl
  listed-below number (a ∷ attempts) low h = by (eqb a.number number) refl h
    where
      by : (b : Bool) → eqb a.number number ≡ b → AreBelow (cond {A = Listed} b (record { outcome = Some a.outcome; others = attempts }) (record { outcome = None; others = a ∷ attempts })).others → AreBelow (a ∷ attempts)
      by true is rest = and_from (leb a.number k) (list_all (λ x. leb x.number k) attempts) (le-leb a.number k (omega (arith, eqb-true a.number number is, low))) rest
      by false is rest = rest

  pass-below : (s : State) (number : ℕ) (attempts : List Attempt) (waiting : List Outstanding) (p : Passed) → pass s number attempts waiting ≡ Some p → p.next ≤ k + 1 → AreBelow p.tried.others → AreBelow attempts
  pass-below s number attempts [] p h low rest = subst (λ (v : Passed). AreBelow v.tried.others → AreBelow attempts) (same_Some (passed s number attempts false) p h) (λ b. b) rest
  pass-below s number attempts (o ∷ waiting) p h low rest = elim (pass_first s number attempts o waiting p h) [
    | inl skipped ↦ pass-below s number attempts waiting p skipped.1 low rest
    | inr x ↦
        let next : x.rest.next ≡ p.next = ap (λ (v : Passed). v.next) x.is in
        let left : AreBelow x.rest.tried.others = (subst AreBelow (sym (ap (λ (v : Passed). v.tried.others) x.is)) rest) in
        elim x.goes_on [
          | inl ends' ↦
              let last : number + 1 ≡ x.rest.next = ap (λ (v : Passed). v.next) ends'.1 in
              listed-below number attempts (omega (arith, low, next, last)) (subst AreBelow (sym (ap (λ (v : Passed). v.tried.others) ends'.1)) left)
          | inr on ↦
              let counts = pass_counts x.first.state (number + 1) (listed number attempts).others waiting x.rest on.1 in
              listed-below number attempts (omega (arith, low, next, counts.up)) (pass-below x.first.state (number + 1) (listed number attempts).others waiting x.rest on.1 (omega (arith, low, next)) left)
        ]
  ]

  settle-up : (most : ℕ) (s : State) (number : ℕ) (attempts : List Attempt) (p : Passed) → settle_within most s number attempts ≡ Some p → number ≤ p.next
  settle-up zero s number attempts p h = subst (λ (v : Passed). number ≤ v.next) (same_Some (passed s number attempts false) p h) (omega arith)
  settle-up (suc most) s number attempts p h =
      let x = settle_first most s number attempts p h in
      let c = pass_counts (emptied s) number attempts s.outstanding x.first x.pass in
      elim x.goes_on [
        | inl (changed, rest, on, is) ↦ omega (arith, c.up, settle-up most (left_by x.first) x.first.next x.first.tried.others rest on, ap (λ (v : Passed). v.next) is)
        | inr (same, is) ↦ omega (arith, c.up, ap (λ (v : Passed). v.next) is)
      ]

  settle_within-below : (most : ℕ) (s : State) (number : ℕ) (attempts : List Attempt) (p : Passed) → settle_within most s number attempts ≡ Some p → p.next ≤ k + 1 → AreBelow p.tried.others → AreBelow attempts
  settle_within-below zero s number attempts p h low left = subst (λ (v : Passed). AreBelow v.tried.others → AreBelow attempts) (same_Some (passed s number attempts false) p h) (λ b. b) left
  settle_within-below (suc most) s number attempts p h low left =
      let x = settle_first most s number attempts p h in
      elim x.goes_on [
        | inl (changed, rest, on, is) ↦
            let next : rest.next ≡ p.next = ap (λ (v : Passed). v.next) is in
            let up = settle-up most (left_by x.first) x.first.next x.first.tried.others rest on in
            pass-below (emptied s) number attempts s.outstanding x.first x.pass (omega (arith, low, next, up))
            (settle_within-below most (left_by x.first) x.first.next x.first.tried.others rest on (omega (arith, low, next)) (subst AreBelow (sym (ap (λ (v : Passed). v.tried.others) is)) left))
        | inr (same, is) ↦
            pass-below (emptied s) number attempts s.outstanding x.first x.pass (omega (arith, low, ap (λ (v : Passed). v.next) is)) (subst AreBelow (sym (ap (λ (v : Passed). v.tried.others) is)) left)
      ]

-- settling lists no number beyond its bound
settle-below : (k : ℕ) (s : State) (number : ℕ) (attempts : List Attempt) (p : Passed) → settle s number attempts ≡ Some p → number + most_settling (length s.outstanding) ≤ k + 1 → AreBelow k p.tried.others → AreBelow k attempts
settle-below k s number attempts p h low left =
    let counts = settle_counts s number attempts p h in
    settle_within-below k (length s.outstanding) s number attempts p h (omega (arith, low, counts.down)) left

none_left : (k : ℕ) (attempts : List Attempt) → none_listed attempts ≡ true → AreBelow k attempts
none_left k [] h = refl
none_left k (a ∷ attempts) h = absurd (omega (arith, eqb-true (length (a ∷ attempts)) 0 h))

ends-below : (k : ℕ) (o : Option Tried) (t : Stepped) → ends o ≡ Some t → (x : Tried) × (o ≡ Some x) × AreBelow k x.others
ends-below k None t h = cc
ends-below k (Some x) t h = (x, refl, none_left k x.others (when_suits (none_listed x.others) (Some x.stepped) t h))

take-below : (s : State) (c : Choice) (n : ℕ) (message : Message) (last : Tried) → takes_and_settles s c n message ≡ Some last → AreBelow (1 + most_settling (length s.outstanding)) last.others → AreBelow (1 + most_settling (length s.outstanding)) c.outcomes
take-below s c n message last h left =
    let (tried, taken, settles) = then_some (then_settles (is_kept own.outcome)) (takes s c n message) last h in
    let (u, work, same) = map_some (λ x. record { stepped = x; others = own.others }) (works s n c.draws own.outcome (work_of s n message)) tried taken in
    listed-below (1 + most_settling (length s.outstanding)) 1 c.outcomes (omega arith) (by u work (is_kept own.outcome) refl (subst (λ (v : Tried). then_settles (is_kept own.outcome) v ≡ Some last) (sym same) settles))
  where
    own : Listed
    own = listed 1 c.outcomes

    by : (u : Stepped) → works s n c.draws own.outcome (work_of s n message) ≡ Some u → (b : Bool) → is_kept own.outcome ≡ b → then_settles b (record { stepped = u; others = own.others }) ≡ Some last → AreBelow (1 + most_settling (length s.outstanding)) own.others
    by u work false kept h = subst (AreBelow (1 + most_settling (length s.outstanding))) (sym (ap (λ (v : Tried). v.others) (same_Some (record { stepped = u; others = own.others }) last h))) left
    by u work true kept h =
        let (p, settled, same) = map_some (λ (p : Passed). (passes_after u.sent p).tried) (settle u.state 2 own.others) last h in
        let waits : most_settling (length u.state.outstanding) ≡ most_settling (length s.outstanding) = ap (λ (os : List Outstanding). most_settling (length os)) (work_waits s c n message own.outcome u work kept) in
        settle-below (1 + most_settling (length s.outstanding)) u.state 2 own.others p settled (omega (arith, waits)) (subst (AreBelow (1 + most_settling (length s.outstanding))) (sym (ap (λ (v : Tried). v.others) same)) left)

pub listed_below : (s : State) (c : Choice) (what : Event) (t : Stepped) → happens s c what ≡ Some t → AreBelow (most_attempts what (length s.outstanding)) c.outcomes
listed_below s c Open t h = none_left 0 c.outcomes (and_parts (none_listed c.outcomes) (none_drawn c) (when_suits (is_without_choice c) (Some (record { state = with_next_session s; sent = [] })) t h)).0
listed_below s c (Close n cause) t h =
    none_left 0 c.outcomes (and_parts (none_listed c.outcomes) (none_drawn c) (and_parts (is_without_choice c) (is_open s n) (when_suits (is_without_choice c && is_open s n) (Some (closed s n)) t h)).0).0
listed_below s c (Take n message) t h =
    let (last, is, left) = ends-below (1 + most_settling (length s.outstanding)) (takes_and_settles s c n message) t (when_is (is_open s n) (ends (takes_and_settles s c n message)) t h) in
    take-below s c n message last is left
listed_below s c Tick t h =
    let (last, is, left) = ends-below (most_settling (length s.outstanding)) (option_map (λ p. p.tried) (settle s 1 c.outcomes)) t (when_is (none_drawn c) (ends (option_map (λ p. p.tried) (settle s 1 c.outcomes))) t h) in
    let (p, settled, same) = map_some (λ (p : Passed). p.tried) (settle s 1 c.outcomes) last is in
    settle-below (most_settling (length s.outstanding)) s 1 c.outcomes p settled (omega arith) (subst (AreBelow (most_settling (length s.outstanding))) (sym (ap (λ (v : Tried). v.others) same)) left)
