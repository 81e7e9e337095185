-- The queues of locks of the code as those of the definitions.
use Rattle.std.specs.Prelude.{◌≡◌, ◌==◌, ℕ, List, ◌∷◌, map, not, Option, Some, None, String, string_bytes}
use Rattle.std.specs.List.{AllByRecursion, filter}
use Rattle.std.specs.declared.alloc.Global.{Global}
use Rattle.ov_specs.specs.locks.Queues.{Queues, locked_notification}
use Rattle.ov_specs.specs.wire.Frame.{frame}

-- the waiters, each with the frame that will notify it
abbrev pub Waiters : Type 0
Waiters = List (ℕ × List ℕ)

-- the owner, and the waiters
abbrev pub Queue : Type 0
Queue = ℕ × Waiters

-- the sessions, in order
abbrev pub sessions_of : Queue → List ℕ
sessions_of queue = queue.0 ∷ map (λ waiter. waiter.0) queue.1

-- the waiters without the session
abbrev pub without_waiter : ℕ → Waiters → Waiters
without_waiter session waiters = filter (λ waiter. not (waiter.0 == session)) waiters

-- the owner after the first of the waiters, if there was one, has become the owner
abbrev pub owner_after : ℕ → Option (ℕ × List ℕ) → ℕ
owner_after former None = former
owner_after former (Some waiter) = waiter.0

-- each waiter will be notified that it has the lock of this name
abbrev pub AreToldOf : List ℕ → Waiters → Type 0
AreToldOf name waiters = AllByRecursion (λ waiter. waiter.1 ≡ frame (locked_notification name)) waiters

-- the queues by the bytes of the locks' names
abbrev pub queues_of : List (String Global × Queue) → Queues
queues_of es = map (λ e. (string_bytes e.0, sessions_of e.1)) es

-- in each queue the waiters will be notified of its lock
abbrev pub AllAreTold : List (String Global × Queue) → Type 0
AllAreTold es = AllByRecursion (λ e. AreToldOf (string_bytes e.0) e.1.1) es
