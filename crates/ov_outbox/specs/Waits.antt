-- In how many queues of locks a session waits.
use Rattle.std.specs.Prelude.{◌≡◌, ℕ, ◌+◌, ◌≤◌, ◌==◌, List, [], ◌∷◌, false}
use Rattle.std.specs.List.{count_by}
use Rattle.ov_specs.specs.locks.Queues.{Queues, has_requested}
use Rattle.ov_outbox.specs.Frames.{WaitingFrames, places_for}

-- how often the session stands in the queue after the first, which is the owner
abbrev pub waits_in : ℕ → List ℕ → ℕ
waits_in session [] = 0
waits_in session (first ∷ queue) = count_by (λ other. other == session) queue

-- how often in all queues
abbrev pub waits_of : ℕ → Queues → ℕ
waits_of session [] = 0
waits_of session (e ∷ queues) = waits_in session e.1 + waits_of session queues

-- a place is kept for each notification that may have to be sent
abbrev pub HasPlaces : WaitingFrames → Queues → Type 0
HasPlaces frames queues = (session : ℕ) → waits_of session queues ≤ places_for session frames

-- the session has asked for no lock
abbrev pub IsOutOfQueues : ℕ → Queues → Type 0
IsOutOfQueues session queues = (name : List ℕ) → has_requested session name queues ≡ false
