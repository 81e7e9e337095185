-- A queue with the frames of its waiters, and its sessions.
use Rattle.std.proofs.Common.{◌≡◌, ℕ, List, [], ◌∷◌, ◌++◌, map, Bool, true, false, cond, not, eqb, Option, Some, None, refl, sym, ap, subst, ◌∙◌}
use Rattle.std.specs.Prelude.{is_none, option_to_list, IfNone}
use Rattle.ov_specs.specs.locks.Queues.{without, first_of, next_in, locked_notification}
use Rattle.ov_specs.specs.wire.Frame.{frame}
use Rattle.ov_locks.specs.Freeing.{owner_notified}
use Rattle.ov_locks.specs.Queued.{Waiters, Queue, sessions_of, without_waiter, owner_after, AreToldOf}

abbrev pub waiting : Waiters → List ℕ
waiting waiters = map (λ waiter. waiter.0) waiters

waiting-without : (session : ℕ) (waiters : Waiters) → waiting (without_waiter session waiters) ≡ without session (waiting waiters)
waiting-without session [] = refl
waiting-without session (waiter ∷ waiters) = by (waiting-without session waiters) (not (eqb waiter.0 session))
  where
    by : waiting (without_waiter session waiters) ≡ without session (waiting waiters) → (b : Bool)
        → waiting (cond b (waiter ∷ without_waiter session waiters) (without_waiter session waiters)) ≡ cond b (waiter.0 ∷ without session (waiting waiters)) (without session (waiting waiters))
    by rest true = ap (λ ss. waiter.0 ∷ ss) rest
    by rest false = rest

pub waiting-back : (waiters : Waiters) (session : ℕ) (text : List ℕ) → waiting (waiters ++ (session, text) ∷ []) ≡ waiting waiters ++ session ∷ []
waiting-back [] session text = refl
waiting-back (waiter ∷ waiters) session text = ap (λ ss. waiter.0 ∷ ss) (waiting-back waiters session text)

pub told-back : (name : List ℕ) (waiters : Waiters) (session : ℕ) → AreToldOf name waiters → AreToldOf name (waiters ++ (session, frame (locked_notification name)) ∷ [])
told-back name [] session are = (refl, tt)
told-back name (waiter ∷ waiters) session are = (are.0, told-back name waiters session are.1)

told-kept : (name : List ℕ) (session : ℕ) (waiters : Waiters) → AreToldOf name waiters → AreToldOf name (without_waiter session waiters)
told-kept name session [] are = tt
told-kept name session (waiter ∷ waiters) are = by (told-kept name session waiters are.1) (not (eqb waiter.0 session))
  where
    by : AreToldOf name (without_waiter session waiters) → (b : Bool) → AreToldOf name (cond b (waiter ∷ without_waiter session waiters) (without_waiter session waiters))
    by rest true = (are.0, rest)
    by rest false = rest

-- what a session leaves
abbrev pub Leaves : ℕ → Queue → Queue → Option (ℕ × List ℕ) → Bool → Type 0
Leaves session q new next is_last =
    (cond is_last [] (sessions_of new) ≡ without session (sessions_of q)) × ((name : List ℕ) → AreToldOf name q.1 → AreToldOf name new.1 × (next ≡ owner_notified name (next_in session (sessions_of q))))

-- one that is not the owner
pub waiter-leaves : (session : ℕ) (q new : Queue) → new ≡ (q.0, without_waiter session q.1) → eqb q.0 session ≡ false → Leaves session q new None false
waiter-leaves session q new is other = (
  ap sessions_of is ∙ ap (λ ss. q.0 ∷ ss) (waiting-without session q.1) ∙ sym (ap (λ b. cond (not b) (q.0 ∷ without session (waiting q.1)) (without session (waiting q.1))) other),
  λ name are. (
    subst (λ (p : Queue). AreToldOf name p.1) (sym is) (told-kept name session q.1 are),
    sym (ap (λ b. owner_notified name (cond b (first_of (without session (waiting q.1))) None)) other),
  ),
)

-- the owner
pub owner-leaves : (session : ℕ) (q mid new : Queue) (next : Option (ℕ × List ℕ)) → mid ≡ (q.0, without_waiter session q.1) → eqb q.0 session ≡ true
    → mid.1 ≡ option_to_list next ++ new.1 → new.0 ≡ owner_after mid.0 next → IfNone next (mid.1 ≡ []) → Leaves session q new next (is_none next)
owner-leaves session q mid new next is same waits owns none = by next waits owns none
  where
    rest : waiting mid.1 ≡ without session (waiting q.1)
    rest = ap (λ (p : Queue). waiting p.1) is ∙ waiting-without session q.1

    left : without session (sessions_of q) ≡ without session (waiting q.1)
    left = ap (λ b. cond (not b) (q.0 ∷ without session (waiting q.1)) (without session (waiting q.1))) same

    next_is : next_in session (sessions_of q) ≡ first_of (waiting mid.1)
    next_is = ap (λ b. cond b (first_of (without session (waiting q.1))) None) same ∙ ap first_of (sym rest)

    are_told : (name : List ℕ) → AreToldOf name q.1 → AreToldOf name mid.1
    are_told name are = subst (λ (p : Queue). AreToldOf name p.1) (sym is) (told-kept name session q.1 are)

    by : (o : Option (ℕ × List ℕ)) → mid.1 ≡ option_to_list o ++ new.1 → new.0 ≡ owner_after mid.0 o → IfNone o (mid.1 ≡ []) → Leaves session q new o (is_none o)
    by None w o n = (
      sym (left ∙ sym rest ∙ ap waiting n),
      λ name are. (
        subst (AreToldOf name) w (are_told name are),
        sym (ap (owner_notified name) (next_is ∙ ap (λ ws. first_of (waiting ws)) n)),
      ),
    )
    by (Some waiter) w o n = (
      ap (λ s. s ∷ waiting new.1) o ∙ sym (left ∙ sym rest ∙ ap waiting w),
      λ name are.
          let all : AreToldOf name (waiter ∷ new.1) = subst (AreToldOf name) w (are_told name are) in (
            all.1,
            ap (λ text. Some (waiter.0, text)) all.0 ∙ sym (ap (owner_notified name) (next_is ∙ ap (λ ws. first_of (waiting ws)) w)),
          ),
    )
