-- When a session is refused a lock.
use Rattle.std.specs.Prelude.{◌≡◌, ℕ, nat_le, List, if◌then◌else◌, codes, Bool, Option, Some, None, Result, Ok, Err}
use Rattle.ov_specs.specs.locks.Queues.{Queues, has_requested, requests_of, lock_limit}
use Rattle.ov_locks.specs.declared.fault.LockFault.{LockFault}
use Rattle.ov_locks.specs.declared.fault.LockFault.TheVariants.{AlreadyRequested, NotHeld, Limit, Memory}

-- what refuses a lock or a steal to a session that has asked for this many locks, whether or not for this one (RFC 7047,
-- 4.1.8, which sets no limit)
abbrev pub refusal_for : Bool → ℕ → Option LockFault
refusal_for has_requested requests =
    if has_requested then Some AlreadyRequested else (if nat_le lock_limit requests then Some Limit else None)

-- what refuses a lock or a steal of this name to the session
abbrev pub request_refusal : List ℕ → ℕ → Queues → Option LockFault
request_refusal name session queues = refusal_for (has_requested session name queues) (requests_of session queues)

-- this fault and no other, if there is one; if there is none, nothing but a failed allocation
abbrev pub RefusesFor : {A : Type 0} → Option LockFault → Result A LockFault → Type 0
RefusesFor (Some fault) result = result ≡ Err fault
RefusesFor None (Ok a) = Unit {0}
RefusesFor None (Err fault) = fault ≡ Memory

-- the error text that the client receives for a fault, if any
abbrev pub fault_text : LockFault → Option (List ℕ)
fault_text AlreadyRequested = Some (codes "lock already requested")
fault_text NotHeld = Some (codes "lock not held")
fault_text Limit = Some (codes "resources exhausted")
fault_text Memory = None
