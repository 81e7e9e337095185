-- Entries at their moments, one part after another.
use Rattle.std.proofs.Common.{◌≡◌, ℕ, List, [], ◌∷◌, ◌++◌, refl, sym, ap, subst, ◌∙◌, append_assoc, append-nil, Some}
use Rattle.ov_specs.specs.machine.Machine as machine
use Rattle.ov_specs.specs.machine.Machine.{State, Entry, Stepped, step}
use Rattle.ov_lanes.specs.Moments.{IsAtMoment, AreTimed, AreTimedBy, Tells}

pub timed_one : (at : ℕ) (s : State) (e : Entry) (t : Stepped) → step s e ≡ Some t → IsAtMoment at s e.choice.moment e.event → AreTimed at s (e ∷ []) t.state
timed_one at s e t h is = (t, h, is, refl)

-- the event is this one
pub at_moment : (at : ℕ) (s : State) (moment : ℕ) (event event' : machine.Event) → event ≡ event' → IsAtMoment at s moment event' → IsAtMoment at s moment event
at_moment at s moment event event' is h = subst (λ (x : machine.Event). IsAtMoment at s moment x) (sym is) h

pub timed_append : (at : ℕ) (s : State) (xs ys : List Entry) (mid new : State) → AreTimed at s xs mid → AreTimed at mid ys new → AreTimed at s (xs ++ ys) new
timed_append at s [] ys mid new x y = subst (λ (k : State). AreTimed at k ys new) x y
timed_append at s (e ∷ xs) ys mid new (t, h, is, x) y = (t, h, is, timed_append at t.state xs ys mid new x y)

-- one moment more was reported
pub timed_more : (moments : List ℕ) (at : ℕ) (s : State) (xs ys : List Entry) (mid new : State) → AreTimedBy moments s xs mid → AreTimed at mid ys new → AreTimedBy (moments ++ at ∷ []) s (xs ++ ys) new
timed_more [] at s xs ys mid new (none, same) y =
    (ys, [], new, ap (λ (l : List Entry). l ++ ys) none ∙ sym (append-nil ys), subst (λ (k : State). AreTimed at k ys new) same y, (refl, refl))
timed_more (m ∷ moments) at s xs ys mid new (front, others, inner, parts, x, rest) y =
    (front, others ++ ys, inner, ap (λ (l : List Entry). l ++ ys) parts ∙ append_assoc front others ys, x, timed_more moments at inner others ys mid new rest y)

pub tells_more : {C : Type 0} (tells : C → ℕ → C → Type 0) (moments : List ℕ) (at : ℕ) (old mid new : C) → Tells tells old moments mid → tells mid at new → Tells tells old (moments ++ at ∷ []) new
tells_more tells [] at old mid new same h = (new, subst (λ (k : _). tells k at new) same h, refl)
tells_more tells (m ∷ moments) at old mid new (next, h, rest) h' = (next, h, tells_more tells moments at next mid new rest h')
