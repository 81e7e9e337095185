-- Transactions that are blocked in a state of the machine (RFC 7047, 4.1.3, 5.2.6).
use Rattle.std.specs.Prelude.{◌≡◌}
use Rattle.std.specs.List.{All}
use Rattle.ov_specs.specs.machine.Machine.{State, Outstanding, tried_in}
use Rattle.ov_specs.specs.operations.Transaction.{Waits}

-- Tried on the database now, at its present age and with the locks that its session owns, it would wait, with the timeout
-- that is kept of it.
abbrev pub IsBlocked : State → Outstanding → Type 0
IsBlocked s o = tried_in s.schema s o ≡ Waits o.timeout

-- each waiting transaction is blocked
abbrev pub AreBlocked : State → Type 0
AreBlocked s = All (IsBlocked s) s.outstanding
