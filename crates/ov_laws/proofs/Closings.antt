-- Which sessions have a cause: those that were open and no longer are.
use Rattle.std.proofs.Common.{◌≡◌, ℕ, ◌+◌, ◌<◌, ◌≤◌, List, [], ◌∷◌, Bool, true, false, cond, eqb, Some, None, is_some, refl, sym, ap, subst, ◌∙◌, ◌⊎◌, inl, inr, arith}
use Rattle.std.specs.Prelude.{not, ◌&&◌, ◌||◌}
use Rattle.std.specs.Option.{option_or}
use Rattle.std.proofs.lemmas.Bool.{cases_Bool, cases_eq, eq-eqb, ne_eqb, false≢true}
use Rattle.ov_specs.specs.rows.Database.{Database}
use Rattle.ov_specs.specs.schema.SchemaTypes.{Schema}
use Rattle.ov_specs.specs.wire.Message.{Message}
use Rattle.ov_specs.specs.machine.Machine.{State, Entry, Event, Open, Take, Close, Tick, Stepped, step, is_open, opening}
use Rattle.ov_specs.specs.machine.History.{run, cause_in, closing_cause, closed_by}
use Rattle.ov_specs.proofs.laws.Histories.{run_parts, run_none, closed_by_first}
use Rattle.ov_specs.proofs.laws.Turns.{MayClose, cause_shut, turn_open, turn_tick, turn_close, turn_close_other, turn_take, turn_take_other}

-- ---- one entry

-- a session that is not open before has no cause
no_cause_away : (n : ℕ) (s t : State) (what : Event) → is_open s n ≡ false → closing_cause n s what t ≡ None
no_cause_away n s t what away = ap (λ b. cond (b && not (is_open t n)) (Some (cause_in n what)) None) away

-- nor one that is open after it
no_cause_open : (n : ℕ) (s t : State) (what : Event) → is_open t n ≡ true → closing_cause n s what t ≡ None
no_cause_open n s t what there = ap (λ b. cond (is_open s n && not b) (Some (cause_in n what)) None) there ∙ never (is_open s n)
  where
    never : (b : Bool) → cond (b && false) (Some (cause_in n what)) None ≡ None
    never true = refl
    never false = refl

-- what an entry makes of a session: it stays, or it is closed, or one with the next serial opens
abbrev Turned : ℕ → State → State → Type 0
Turned n s t = (((is_open t n ≡ is_open s n) ⊎ (is_open t n ≡ false)) × (t.next ≡ s.next)) ⊎ ((is_open t n ≡ (is_open s n || eqb s.next n)) × (t.next ≡ s.next + 1))

-- one that may be closed
may_close : (n : ℕ) (s : State) (e : Entry) (t : Stepped) (taken : List Message) → MayClose n s e t taken → Turned n s t.state
may_close n s e t taken (inl turn) = inl (inl turn.open_is, turn.next_is)
may_close n s e t taken (inr (was, turn)) = inl (inr turn.open_is, turn.next_is)

turned : (n : ℕ) (s : State) (e : Entry) (t : Stepped) → step s e ≡ Some t → (what : Event) → e.event ≡ what → Turned n s t.state
turned n s e t k Open is = let turn = turn_open n s e t k is in inr (turn.open_is, turn.next_is)
turned n s e t k Tick is = may_close n s e t [] (turn_tick n s e t k is)
turned n s e t k (Close m cause) is = elim (cases_eq m n) [
  | inl same ↦ let turn = turn_close n s e t k cause (is ∙ ap (λ (v : ℕ). Close v cause) same) in inl (inr turn.open_is, turn.next_is)
  | inr ne ↦ let turn = turn_close_other n s e t k m cause ne is in inl (inl turn.open_is, turn.next_is)
]
turned n s e t k (Take m message) is = elim (cases_eq m n) [
  | inl same ↦ may_close n s e t (message ∷ []) (turn_take n s e t k message (is ∙ ap (λ (v : ℕ). Take v message) same))
  | inr ne ↦ may_close n s e t [] (turn_take_other n s e t k m message ne is)
]

-- serials are never used again
grows : (n : ℕ) (s t : State) → Turned n s t → s.next ≤ t.next
grows n s t (inl (open_is, next)) = omega (arith, next)
grows n s t (inr (open_is, next)) = omega (arith, next)

-- so a session that is closed stays so
stays_away : (n : ℕ) (s t : State) → Turned n s t → is_open s n ≡ false → n < s.next → is_open t n ≡ false
stays_away n s t (inl (inl same, next)) away low = same ∙ away
stays_away n s t (inl (inr shut, next)) away low = shut
stays_away n s t (inr (opens, next)) away low = opens ∙ (ap (λ b. b || eqb s.next n) away ∙ ne_eqb s.next n (λ e. omega (arith, e)))

-- and one still to come is opened with its serial, or is still to come
opens_next : (n : ℕ) (s t : State) → Turned n s t → is_open s n ≡ false → s.next ≤ n → ((is_open t n ≡ true) × (n < t.next)) ⊎ ((is_open t n ≡ false) × (t.next ≤ n))
opens_next n s t (inl (inl same, next)) away high = inr (same ∙ away, omega (arith, next))
opens_next n s t (inl (inr shut, next)) away high = inr (shut, omega (arith, next))
opens_next n s t (inr (opens, next)) away high = elim (cases_eq s.next n) [
  | inl is ↦ inl (opens ∙ (ap (λ b. b || eqb s.next n) away ∙ eq-eqb s.next n is), omega (arith, next, is))
  | inr ne ↦ inr (opens ∙ (ap (λ b. b || eqb s.next n) away ∙ ne_eqb s.next n ne), omega (arith, next, ne))
]

-- ---- a run

-- a session that is open before a run and not after it has a cause
pub has_cause : (n : ℕ) (s : State) (h : List Entry) (t : Stepped) → run s h ≡ Some t → is_open s n ≡ true → is_open t.state n ≡ false → is_some (closed_by s h n) ≡ true
has_cause n s [] t r there away = absurd (false≢true (sym away ∙ (ap (λ (v : State). is_open v n) (sym (run_none s t r)) ∙ there)))
has_cause n s (e ∷ h) t r there away =
    let parts = run_parts s e h t r in
    let more = closed_by_first s e h n parts.first parts.stepped in
    ap is_some more ∙ elim (cases_Bool (is_open parts.first.state n)) [
      | inl still ↦
          ap (λ o. is_some (option_or o (closed_by parts.first.state h n))) (no_cause_open n s parts.first.state e.event still)
          ∙ has_cause n parts.first.state h parts.rest parts.runs still (ap (λ (v : State). is_open v n) parts.state ∙ away)
      | inr gone ↦ ap (λ o. is_some (option_or o (closed_by parts.first.state h n))) (cause_shut n s parts.first.state e.event there gone)
    ]

-- What a run makes of a session: an open one has a cause exactly if it is not open after it; one closed before has none, and
-- stays closed; one still to come is like an open one once it has been opened.
pub record Lasts (n : ℕ) (s : State) (h : List Entry) (t : State) : Type 0 where
  pub going : is_open s n ≡ true → n < s.next → is_some (closed_by s h n) ≡ not (is_open t n)
  pub gone : is_open s n ≡ false → n < s.next → (closed_by s h n ≡ None) × (is_open t n ≡ false)
  pub to_come : is_open s n ≡ false → s.next ≤ n → n < t.next → is_some (closed_by s h n) ≡ not (is_open t n)

lasts_none : (n : ℕ) (s t : State) → s ≡ t → Lasts n s [] t
lasts_none n s t same =
    let open_is : is_open s n ≡ is_open t n = ap (λ (v : State). is_open v n) same in
    let next : s.next ≡ t.next = ap (λ (v : State). v.next) same in
    record {
      going = λ there low. ap not (sym there ∙ open_is);
      gone = λ away low. (refl, sym open_is ∙ away);
      to_come = λ away high low. absurd (omega (arith, next));
    }

module _ (n : ℕ) (s : State) (e : Entry) (h : List Entry) (first : Stepped) (t : State) (stepped : step s e ≡ Some first) (rest : Lasts n first.state h t) where
  -- the first entry did not close it
  on : closing_cause n s e.event first.state ≡ None → closed_by s (e ∷ h) n ≡ closed_by first.state h n
  on none = closed_by_first s e h n first stepped ∙ ap (λ o. option_or o (closed_by first.state h n)) none

  lasts_more : Turned n s first.state → Lasts n s (e ∷ h) t
  lasts_more turn = record {
    going = λ there low. elim (cases_Bool (is_open first.state n)) [
      | inl still ↦ ap is_some (on (no_cause_open n s first.state e.event still)) ∙ rest.going still (omega (arith, low, grows n s first.state turn))
      | inr shut ↦
          ap is_some (closed_by_first s e h n first stepped ∙ ap (λ o. option_or o (closed_by first.state h n)) (cause_shut n s first.state e.event there shut))
          ∙ ap not (sym (rest.gone shut (omega (arith, low, grows n s first.state turn))).1)
    ];
    gone = λ away low.
        let later = rest.gone (stays_away n s first.state turn away low) (omega (arith, low, grows n s first.state turn)) in
        (on (no_cause_away n s first.state e.event away) ∙ later.0, later.1);
    to_come = λ away high low. ap is_some (on (no_cause_away n s first.state e.event away)) ∙ elim (opens_next n s first.state turn away high) [
      | inl opens ↦ rest.going opens.0 opens.1
      | inr still ↦ rest.to_come still.0 still.1 low
    ];
  }

pub lasts : (n : ℕ) (s : State) (h : List Entry) (t : Stepped) → run s h ≡ Some t → Lasts n s h t.state
lasts n s [] t r = lasts_none n s t.state (run_none s t r)
lasts n s (e ∷ h) t r =
    let parts = run_parts s e h t r in
    let rest = subst (λ (v : State). Lasts n parts.first.state h v) parts.state (lasts n parts.first.state h parts.rest parts.runs) in
    lasts_more n s e h parts.first t.state parts.stepped rest (turned n s e parts.first parts.stepped e.event refl)

-- a session that is open has a cause exactly if it is not open after the run
pub closed_for_cause : (s : State) (h : List Entry) (t : Stepped) (n : ℕ) → run s h ≡ Some t → is_open s n ≡ true → n < s.next → is_some (closed_by s h n) ≡ not (is_open t.state n)
closed_for_cause s h t n r there low = (lasts n s h t r).going there low

-- and so has a session that was opened since an opening
pub closed_since_opening : (schema : Schema) (database : Database) (h : List Entry) (t : Stepped) (n : ℕ) → run (opening schema database) h ≡ Some t → 0 < n → n < t.state.next → is_some (closed_by (opening schema database) h n) ≡ not (is_open t.state n)
closed_since_opening schema database h t n r some low = (lasts n (opening schema database) h t r).to_come refl (omega (arith, some)) low
