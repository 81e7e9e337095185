-- The frames that wait for sessions, and the places that are kept for more.
use Rattle.std.specs.Prelude.{◌≡◌, ℕ, ◌+◌, ◌-◌, ◌*◌, ◌==◌, List, [], ◌∷◌, ◌++◌, map, filter, Bool, Option, Some, None, is_some, option_map, unwrap_or, if◌then◌else◌}
use Rattle.std.specs.List.{count_by}
use Rattle.std.specs.Map.{lookup}
use Rattle.std.specs.BTreeMap.{is_at}
use Rattle.std.specs.Ordering.{nat_cmp}
use Rattle.ov_specs.specs.machine.Machine.{Sent}
use Rattle.ov_specs.specs.machine.History.{frames_to}
use Rattle.ov_specs.specs.wire.Frame.{frame}

-- the frames that wait, oldest first, and how many places are kept for more
abbrev pub FrameQueue : Type 0
FrameQueue = List (List ℕ) × ℕ

-- those of each session that has a queue
abbrev pub WaitingFrames : Type 0
WaitingFrames = List (ℕ × FrameQueue)

-- the queue of a session, if it has one
abbrev pub queue_for : ℕ → WaitingFrames → Option FrameQueue
queue_for session queues = lookup (is_at (nat_cmp session)) queues

-- what waits in a queue, if there is one
abbrev pub frames_in : Option FrameQueue → List (List ℕ)
frames_in queue = unwrap_or (option_map (λ q. q.0) queue) []

-- the places that are kept in it
abbrev pub places_in : Option FrameQueue → ℕ
places_in queue = unwrap_or (option_map (λ q. q.1) queue) 0

-- what waits for a session
abbrev pub waiting_for : ℕ → WaitingFrames → List (List ℕ)
waiting_for session queues = frames_in (queue_for session queues)

-- the places that are kept for it
abbrev pub places_for : ℕ → WaitingFrames → ℕ
places_for session queues = places_in (queue_for session queues)

-- the session has a queue, even an empty one
abbrev pub has_queue : ℕ → WaitingFrames → Bool
has_queue session queues = is_some (queue_for session queues)

-- ---- what becomes of the frames

-- one more frame waits for the session
abbrev pub PostsFrame : ℕ → List ℕ → WaitingFrames → WaitingFrames → Type 0
PostsFrame session frame old new =
    (other : ℕ) → waiting_for other new ≡ waiting_for other old ++ (if other == session then frame ∷ [] else [])

-- these are sent: their frames wait after those that waited, each for its session
abbrev pub PostsSent : List Sent → WaitingFrames → WaitingFrames → Type 0
PostsSent sent old new = (session : ℕ) → waiting_for session new ≡ waiting_for session old ++ frames_to session sent

-- the same frames wait
abbrev pub HasSameFrames : WaitingFrames → WaitingFrames → Type 0
HasSameFrames old new = (other : ℕ) → waiting_for other new ≡ waiting_for other old

-- nothing waits for the session, and the same frames wait for the others
abbrev pub ClearsSession : ℕ → WaitingFrames → WaitingFrames → Type 0
ClearsSession session old new = (other : ℕ) → waiting_for other new ≡ (if other == session then [] else waiting_for other old)

-- ---- what becomes of the places

-- the same places are kept
abbrev pub HasSamePlaces : WaitingFrames → WaitingFrames → Type 0
HasSamePlaces old new = (other : ℕ) → places_for other new ≡ places_for other old

-- one more place is kept for the session
abbrev pub KeepsPlace : ℕ → WaitingFrames → WaitingFrames → Type 0
KeepsPlace session old new = (other : ℕ) → places_for other new ≡ places_for other old + (if other == session then 1 else 0)

-- one place less for the session, if there was one
abbrev pub GivesUpPlace : ℕ → WaitingFrames → WaitingFrames → Type 0
GivesUpPlace session old new = (other : ℕ) → places_for other new ≡ places_for other old - (if other == session then 1 else 0)

-- no place is kept for the session
abbrev pub GivesUpPlaces : ℕ → WaitingFrames → WaitingFrames → Type 0
GivesUpPlaces session old new = (other : ℕ) → places_for other new ≡ (if other == session then 0 else places_for other old)

-- two more places are kept for the session, if there is one
abbrev pub KeepsTwoFor : Option ℕ → WaitingFrames → WaitingFrames → Type 0
KeepsTwoFor None old new = HasSamePlaces old new
KeepsTwoFor (Some session) old new =
    (other : ℕ) → places_for other new ≡ places_for other old + 2 * (if other == session then 1 else 0)

-- two places less for it, if there are two
abbrev pub GivesUpTwoFor : Option ℕ → WaitingFrames → WaitingFrames → Type 0
GivesUpTwoFor None old new = HasSamePlaces old new
GivesUpTwoFor (Some session) old new =
    (other : ℕ) → places_for other new ≡ places_for other old - 2 * (if other == session then 1 else 0)

-- ---- frames that are prepared

-- what is sent, as a frame with its session
abbrev pub posted : Sent → ℕ × List ℕ
posted t = (t.session, frame t.tree)

-- how many of these are for the session
abbrev pub count_for : ℕ → List (ℕ × List ℕ) → ℕ
count_for session frames = count_by (λ p. p.0 == session) frames

-- each of these frames has taken one of the places of its session
abbrev pub TakesPlaces : List (ℕ × List ℕ) → WaitingFrames → WaitingFrames → Type 0
TakesPlaces frames old new = (other : ℕ) → places_for other new + count_for other frames ≡ places_for other old

-- what of these is for the session, in order
abbrev pub frames_for : ℕ → List (ℕ × List ℕ) → List (List ℕ)
frames_for session frames = map (λ p. p.1) (filter (λ p. p.0 == session) frames)

-- these wait after those that waited, each for its session
abbrev pub PostsAll : List (ℕ × List ℕ) → WaitingFrames → WaitingFrames → Type 0
PostsAll frames old new = (session : ℕ) → waiting_for session new ≡ waiting_for session old ++ frames_for session frames
