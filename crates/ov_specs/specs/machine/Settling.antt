-- Settling as a relation: how the transactions that wait are tried again, until each that is left is blocked (RFC 7047, 4.1.3).
use Rattle.std.specs.Prelude.{◌≡◌, ◌≢◌, ℕ, ◌+◌, List, [], ◌∷◌, ◌++◌, false, Some}
use Rattle.ov_specs.specs.machine.Machine.{State, Attempt, Outstanding, Stepped, Passed, listed, passed, passes_after, still_waiting, tries_again}

-- What settling comes to, from a state in which those that were tried and are blocked wait, with those that are still to be
-- tried, the number of the next attempt, and what is listed from that one on. A transaction whose session was closed on the
-- way is not tried.
pub data Settles : State → List Outstanding → ℕ → List Attempt → Passed → Type 0 where
  -- None is left to try: settling ends.
  ends : (s : State) (number : ℕ) (attempts : List Attempt)
      → Settles s [] number attempts (passed s number attempts false)
  -- The next one is tried, and the database stays as it was, since it is answered or blocked, or its session is closed: on to
  -- the one after it.
  goes_on : (s : State) (o : Outstanding) (waiting : List Outstanding) (number : ℕ)
      (attempts : List Attempt) (t : Stepped) (p : Passed)
      → tries_again s o (listed number attempts).outcome ≡ Some t → t.state.database ≡ s.database
      → Settles t.state (still_waiting t.state waiting) (number + 1)
      (listed number attempts).others p
      → Settles s (o ∷ waiting) number attempts (passes_after t.sent p)
  -- The next one is tried, and its commit changed the database: all that still wait are tried, from the first on.
  begins_again : (s : State) (o : Outstanding) (waiting : List Outstanding) (number : ℕ)
      (attempts : List Attempt) (t : Stepped) (p : Passed)
      → tries_again s o (listed number attempts).outcome ≡ Some t → t.state.database ≢ s.database
      → Settles (record t.state { outstanding = [] })
      (still_waiting t.state (t.state.outstanding ++ waiting)) (number + 1)
      (listed number attempts).others p
      → Settles s (o ∷ waiting) number attempts (passes_after t.sent p)

-- what settling comes to from a state, beginning with the attempt of this number: all that wait are tried
abbrev pub IsSettling : State → ℕ → List Attempt → Passed → Type 0
IsSettling s number attempts p =
    Settles (record s { outstanding = [] }) (still_waiting s s.outstanding) number attempts p
