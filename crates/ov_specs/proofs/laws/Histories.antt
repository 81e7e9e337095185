-- Histories, one entry longer.
use Rattle.std.proofs.Common.{◌≡◌, ℕ, List, [], ◌∷◌, ◌++◌, refl, sym, ap, subst, ◌∙◌, append_assoc, Option, Some, None}
use Rattle.std.specs.Prelude.{option_map, option_and_then}
use Rattle.std.specs.Option.{option_or}
use Rattle.std.proofs.lemmas.List.{append-nil}
use Rattle.std.proofs.lemmas.Option.{same_Some}
use Rattle.ov_specs.specs.machine.Machine.{State, Entry, Cause, Sent, Stepped, step}
use Rattle.ov_specs.specs.machine.History.{run, then_sends, requests, taken_by, closing_cause, closed_by}

-- none after it
pub option_or_none : {A : Type 0} (o : Option A) → option_or o None ≡ o
option_or_none None = refl
option_or_none (Some x) = refl

-- the first of three
option_or_assoc : {A : Type 0} (a b c : Option A) → option_or a (option_or b c) ≡ option_or (option_or a b) c
option_or_assoc None b c = refl
option_or_assoc (Some x) b c = refl

-- ---- runs

-- a run, by its first entry
pub record Runs (s : State) (e : Entry) (h : List Entry) (t : Stepped) : Type 0 where
  pub first : Stepped
  pub rest : Stepped
  pub stepped : step s e ≡ Some first
  pub runs : run first.state h ≡ Some rest
  pub state : rest.state ≡ t.state
  pub sent : first.sent ++ rest.sent ≡ t.sent

pub run_parts : (s : State) (e : Entry) (h : List Entry) (t : Stepped) → run s (e ∷ h) ≡ Some t → Runs s e h t
run_parts s e h t r = first_part (step s e) refl r
  where
    second_part : (u : Stepped) → step s e ≡ Some u → (o : Option Stepped) → run u.state h ≡ o → option_map (then_sends u.sent) o ≡ Some t → Runs s e h t
    second_part u is None k p = cc
    second_part u is (Some w) k p =
        let same : then_sends u.sent w ≡ t = same_Some (then_sends u.sent w) t p in
        record { first = u; rest = w; stepped = is; runs = k; state = ap (λ (v : Stepped). v.state) same; sent = ap (λ (v : Stepped). v.sent) same }

    first_part : (o : Option Stepped) → step s e ≡ o → option_and_then (λ u. option_map (then_sends u.sent) (run u.state h)) o ≡ Some t → Runs s e h t
    first_part None is p = cc
    first_part (Some u) is p = second_part u is (run u.state h) refl p

-- where a run of no entry leads
pub run_none : (s : State) (t : Stepped) → run s [] ≡ Some t → s ≡ t.state
run_none s t r = ap (λ (v : Stepped). v.state) (same_Some (record { state = s; sent = [] }) t r)

-- a run goes on by one step
pub run_more : (s : State) (h : List Entry) (e : Entry) (t u : Stepped) → run s h ≡ Some t → step t.state e ≡ Some u → run s (h ++ e ∷ []) ≡ Some (record { state = u.state; sent = t.sent ++ u.sent })
run_more s [] e t u p q =
    let same : record { state = s; sent = [] } ≡ t = same_Some _ _ p in
    let at : step s e ≡ Some u = subst (λ (k : Stepped). step k.state e ≡ Some u) (sym same) q in
    rw at (ap (λ (k : List Sent). Some (record { state = u.state; sent = k })) (append-nil u.sent ∙ ap (λ (k : Stepped). k.sent ++ u.sent) same))
run_more s (d ∷ h) e t u p q =
    let parts = run_parts s d h t p in
    let again = run_more parts.first.state h e parts.rest u parts.runs (subst (λ (k : State). step k e ≡ Some u) (sym parts.state) q) in
    ap (option_and_then (λ (v : Stepped). option_map (then_sends v.sent) (run v.state (h ++ e ∷ [])))) parts.stepped
    ∙ (ap (option_map (then_sends parts.first.sent)) again
    ∙ ap (λ (k : List Sent). Some (record { state = u.state; sent = k })) (sym (append_assoc parts.first.sent parts.rest.sent u.sent) ∙ ap (λ (k : List Sent). k ++ u.sent) parts.sent))

-- the history leads from the one state to the other
abbrev pub Leads : State → List Entry → State → Type 0
Leads s h t = (sent : List Sent) × (run s h ≡ Some (record { state = t; sent = sent }))

pub leads_none : (s : State) → Leads s [] s
leads_none s = ([], refl)

-- by one step more
pub leads_more : (s : State) (h : List Entry) (t : State) (e : Entry) (u : Stepped) → Leads s h t → step t e ≡ Some u → Leads s (h ++ e ∷ []) u.state
leads_more s h t e u (sent, r) k = (sent ++ u.sent, run_more s h e (record { state = t; sent = sent }) u r k)

-- ---- what is taken, and what is closed

-- one entry more
pub requests_more : (h : List Entry) (e : Entry) (n : ℕ) → requests (h ++ e ∷ []) n ≡ requests h n ++ taken_by n e.event
requests_more [] e n = append-nil (taken_by n e.event)
requests_more (x ∷ h) e n = ap (λ l. taken_by n x.event ++ l) (requests_more h e n) ∙ sym (append_assoc (taken_by n x.event) (requests h n) (taken_by n e.event))

-- by a first entry
pub closed_by_first : (s : State) (e : Entry) (h : List Entry) (n : ℕ) (t : Stepped) → step s e ≡ Some t → closed_by s (e ∷ h) n ≡ option_or (closing_cause n s e.event t.state) (closed_by t.state h n)
closed_by_first s e h n t k = ap (option_and_then (λ (v : Stepped). option_or (closing_cause n s e.event v.state) (closed_by v.state h n))) k

-- by one history after another
pub closed_by_append : (s : State) (h k : List Entry) (n : ℕ) (t : Stepped) → run s h ≡ Some t → closed_by s (h ++ k) n ≡ option_or (closed_by s h n) (closed_by t.state k n)
closed_by_append s [] k n t r = ap (λ (v : State). closed_by v k n) (run_none s t r)
closed_by_append s (e ∷ h) k n t r =
    let parts = run_parts s e h t r in
    let cause : Option Cause = closing_cause n s e.event parts.first.state in
    closed_by_first s e (h ++ k) n parts.first parts.stepped
    ∙ (ap (option_or cause) (closed_by_append parts.first.state h k n parts.rest parts.runs ∙ ap (λ (v : State). option_or (closed_by parts.first.state h n) (closed_by v k n)) parts.state)
    ∙ (option_or_assoc cause (closed_by parts.first.state h n) (closed_by t.state k n)
    ∙ ap (λ (o : Option Cause). option_or o (closed_by t.state k n)) (sym (closed_by_first s e h n parts.first parts.stepped))))

-- by one entry more
pub closed_by_more : (s : State) (h : List Entry) (t : State) (e : Entry) (u : Stepped) (n : ℕ) → Leads s h t → step t e ≡ Some u → closed_by s (h ++ e ∷ []) n ≡ option_or (closed_by s h n) (closing_cause n t e.event u.state)
closed_by_more s h t e u n (sent, r) k =
    closed_by_append s h (e ∷ []) n (record { state = t; sent = sent }) r
    ∙ ap (option_or (closed_by s h n)) (closed_by_first t e [] n u k ∙ option_or_none (closing_cause n t e.event u.state))
