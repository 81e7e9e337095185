-- What a blocked transaction leaves (RFC 7047, 4.1.3, 5.2.6).
use Rattle.std.specs.Prelude.{◌≡◌, ◌≢◌, ℕ, [], Option, Some}
use Rattle.ov_specs.specs.machine.Machine.{State, Outcome, NoMemory, Outstanding, Stepped, waits_on}

-- The database is as before. Unless an allocation failed, nothing is sent, and all that changes is that the transaction waits,
-- as the last one, with the timeout of the wait that blocks it.
pub record LeavesBlocked
    (s : State) (waiting : Outstanding) (timeout : Option ℕ) (outcome : Option Outcome)
    (stepped : Stepped) : Type 0 where
  pub database : stepped.state.database ≡ s.database
  pub waits : outcome ≢ Some NoMemory
      → stepped ≡ record { state = waits_on s waiting timeout; sent = [] }
