-- When a session closes and leaves its locks, only other sessions are notified.
use Rattle.std.proofs.Common.{◌≡◌, ℕ, List, [], ◌∷◌, Bool, true, false, cond, eqb, Option, Some, None, refl, sym, ap, ◌∙◌, map}
use Rattle.std.specs.Prelude.{not}
use Rattle.std.proofs.lemmas.Option.{same_Some}
use Rattle.ov_specs.specs.locks.Queues.{Queues, queue_of, first_of, names_of, without, next_in, unlock, next_owner, freed_before, freed_all, locked_notification, told_of_leaving}
use Rattle.ov_specs.specs.machine.Machine.{told}
use Rattle.ov_specs.specs.machine.History.{frames_to}

-- the first of those without a session is another
first_without : (session next : ℕ) (queue : List ℕ) → first_of (without session queue) ≡ Some next → eqb next session ≡ false
first_without session next [] is = cc
first_without session next (other ∷ queue) is = by (eqb other session) refl (first_without session next queue) is
  where
    by : (b : Bool) → eqb other session ≡ b → (first_of (without session queue) ≡ Some next → eqb next session ≡ false) → first_of (cond (not b) (other ∷ without session queue) (without session queue)) ≡ Some next
        → eqb next session ≡ false
    by true at rest h = rest h
    by false at rest h = ap (λ n. eqb n session) (sym (same_Some other next h)) ∙ at

next_is_other : (session next : ℕ) (queue : List ℕ) → next_in session queue ≡ Some next → eqb next session ≡ false
next_is_other session next [] is = cc
next_is_other session next (first ∷ queue) is = by (eqb first session) is
  where
    by : (b : Bool) → cond b (first_of (without session queue)) None ≡ Some next → eqb next session ≡ false
    by true h = first_without session next queue h
    by false h = cc

-- so its own session is not notified
freed_silent : (session : ℕ) (names : List (List ℕ)) (queues : Queues) → frames_to session (told (map (λ f. (f.0, locked_notification f.1)) (freed_all session names queues))) ≡ []
freed_silent session [] queues = refl
freed_silent session (name ∷ names) queues = by (next_owner name session queues) refl (freed_silent session names (unlock name session queues))
  where
    later : List (ℕ × List ℕ)
    later = freed_all session names (unlock name session queues)

    by : (next : Option ℕ) → next_owner name session queues ≡ next → frames_to session (told (map (λ f. (f.0, locked_notification f.1)) later)) ≡ []
        → frames_to session (told (map (λ f. (f.0, locked_notification f.1)) (freed_before next name later))) ≡ []
    by None is rest = rest
    by (Some next) is rest = rw (next_is_other session next (queue_of name queues) is) rest

pub leaving_silent : (session : ℕ) (queues : Queues) → frames_to session (told (told_of_leaving session queues)) ≡ []
leaving_silent session queues = freed_silent session (names_of session queues) queues
