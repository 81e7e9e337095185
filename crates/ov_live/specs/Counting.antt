-- How the count of attempts rises.
use Rattle.std.specs.Prelude.{◌≡◌, ℕ, ◌+◌, ◌≤◌, List, [], ◌∷◌, length, Option, Some}
use Rattle.ov_specs.specs.machine.Machine as machine
use Rattle.ov_specs.specs.machine.Machine.{State, Choice, Event, Entry, Stepped, listed, step}
use Rattle.ov_laws.specs.Attempts.{attempts_of, most_attempts, count_of}
use Rattle.ov_laws.specs.Databases.{at_moment_of}

-- It rises by one with each of these attempts. If an allocation fails in the work on a message, that may be before its attempt.
abbrev pub RisesBy : Option machine.Outcome → ℕ → ℕ → ℕ → Type 0
RisesBy (Some machine.NoMemory) attempts old new = (old ≤ new) × (new ≤ old + attempts)
RisesBy outcome attempts old new = new ≡ old + attempts

-- It rises by one with each attempt of the event.
abbrev pub CountsTries : State → Choice → Event → ℕ → ℕ → Type 0
CountsTries s c machine.Open old new = new ≡ old + attempts_of s c machine.Open
CountsTries s c (machine.Take session message) old new =
    RisesBy (listed 1 c.outcomes).outcome (attempts_of s c (machine.Take session message)) old new
CountsTries s c (machine.Close session cause) old new = new ≡ old + attempts_of s c (machine.Close session cause)
CountsTries s c machine.Tick old new = new ≡ old + attempts_of s c machine.Tick

-- These entries lead from the one state to the other, and the count rises from the one number to the other: with each attempt
-- of each entry.
abbrev pub CountsAll : State → List Entry → ℕ → State → ℕ → Type 0
CountsAll s [] old s' new = (s' ≡ s) × (new ≡ old)
CountsAll s (e ∷ entries) old s' new =
    (t : Stepped) × (mid : ℕ) × (step s e ≡ Some t) × CountsTries (at_moment_of e s) e.choice e.event old mid
    × CountsAll t.state entries mid s' new

-- the sum of the most attempts of each of these entries, from this state on
abbrev pub most_in : State → List Entry → ℕ
most_in s [] = 0
most_in s (e ∷ entries) = most_attempts e.event (length s.outstanding) + count_of (step s e) (λ t. most_in t.state entries)
