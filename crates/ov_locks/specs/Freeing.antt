-- The notifications about the locks that a session leaves, lock by lock.
use Rattle.std.specs.Prelude.{ℕ, List, map, Option, option_map}
use Rattle.ov_specs.specs.locks.Queues.{locked_notification}
use Rattle.ov_specs.specs.wire.Frame.{frame}

-- the session that has become the owner of the lock, with the frame that notifies it
abbrev pub owner_notified : List ℕ → Option ℕ → Option (ℕ × List ℕ)
owner_notified name session = option_map (λ s. (s, frame (locked_notification name))) session

-- new owners, each with the name of its lock, and with the frame that notifies it
abbrev pub owners_notified : List (ℕ × List ℕ) → List (ℕ × List ℕ)
owners_notified freed = map (λ p. (p.0, frame (locked_notification p.1))) freed
