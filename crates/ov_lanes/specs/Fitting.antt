-- How the rings of a session fit what became of it.
use Rattle.std.specs.Prelude.{◌≡◌, ◌≢◌, ◌⊎◌, ℕ, ◌+◌, ◌<◌, List, [], ◌∷◌, ◌++◌, length, map, Bool, true, false, not, Option, Some, None, is_some}
use Rattle.ov_specs.specs.wire.Beginning.{BeginsAs}
use Rattle.ov_specs.specs.wire.Message.{Message}
use Rattle.ov_specs.specs.machine.Machine as machine
use Rattle.ov_order.specs.declared.items.Brought.{Brought}
use Rattle.ov_order.specs.declared.items.Brought.TheVariants.{Message as Brings, End as Last}
use Rattle.ov_order.specs.declared.items.Sent.{Sent}
use Rattle.ov_order.specs.declared.items.Sent.TheVariants.{Frame, End}
use Rattle.ov_workers.specs.declared.cause.ReadCause.{ReadCause}
use Rattle.ov_workers.specs.declared.cause.ReadCause.TheVariants as reads
use Rattle.ov_history.specs.declared.event.Cause.{Cause}
use Rattle.ov_history.specs.Entries.{cause_view}
use Rattle.ov_lanes.specs.Courses.{Course}

-- ---- what a reader brings

-- items that a reader brings
abbrev pub Items : Type 0
Items = List (Brought Message ReadCause)

-- messages, as a reader brings them
abbrev pub brought : List Message → Items
brought messages = map (λ message. Brings message) messages

-- why a session is closed when its reader's end is taken
abbrev pub end_cause : ReadCause → machine.Cause
end_cause reads.InputEnded = machine.InputEnded
end_cause reads.ReadFault = machine.ReadFault
end_cause reads.Damaged = machine.Damaged
end_cause reads.Memory = machine.Memory

-- Only a reader's end closes a session for this cause, after all of its messages.
abbrev pub is_of_reader : machine.Cause → Bool
is_of_reader machine.InputEnded = true
is_of_reader machine.ReadFault = true
is_of_reader machine.WriteFault = false
is_of_reader machine.Damaged = true
is_of_reader machine.Overrun = false
is_of_reader machine.Memory = false

-- it was closed for such a cause
abbrev pub is_by_reader : Option machine.Cause → Bool
is_by_reader None = false
is_by_reader (Some cause) = is_of_reader cause

-- the reader's end with this cause comes first
abbrev pub IsEndFor : machine.Cause → Items → Type 0
IsEndFor cause items = (last : ReadCause) × (others : Items) × (items ≡ Last last ∷ others) × (end_cause last ≡ cause)

-- What was taken from a ring, by why its session was closed. While the session is open, these are the messages that the
-- history has of it. If its reader closed it, the end follows them; otherwise what followed them was dropped.
abbrev pub Took : Option machine.Cause → List Message → Items → Type 0
Took None messages items = items ≡ brought messages
Took (Some cause) messages items = (others : Items) × (items ≡ brought messages ++ others) × (is_of_reader cause ≡ true → IsEndFor cause others)

-- an item was taken that is not one of these messages
abbrev pub LeavesItem : List Message → Items → Type 0
LeavesItem messages items = (item : Brought Message ReadCause) × (others : Items) × (items ≡ brought messages ++ item ∷ others)

-- An entry closes a session only if its ring had no room, or for an item that was taken and is not one of its messages.
abbrev pub IsShut : Option machine.Cause → List machine.Cause → List Message → Items → Type 0
IsShut None shut messages items = shut ≡ []
IsShut (Some cause) shut messages items = (shut ≡ []) ⊎ ((shut ≡ machine.Overrun ∷ []) ⊎ LeavesItem messages items)

-- ---- what a writer is sent

-- the most frames that wait in a ring
abbrev pub most_frames : ℕ
most_frames = 1024

-- frames, as a writer is sent them
abbrev pub framed : List (List ℕ) → List Sent
framed frames = map (λ bytes. Frame bytes) frames

-- no frame was dropped, or there were more of them than a ring has room for
abbrev pub AreDroppedForRoom : List (List ℕ) → List (List ℕ) → Type 0
AreDroppedForRoom frames all = (frames ≡ all) ⊎ (most_frames < length all)

-- What was put into a ring: the frames that were handed out. After the end mark nothing follows and nothing waits. Frames were
-- dropped only for want of room, and if the reader closed the session none was.
abbrev pub PutsFrames : Course → Bool → List Sent → Type 0
PutsFrames c false put = (put ≡ framed c.handed) × (is_by_reader c.closed ≡ true → c.waiting ≡ [])
PutsFrames c true put =
    (c.is_open ≡ false) × (c.waiting ≡ [])
    × ((frames : List (List ℕ)) × (put ≡ framed frames ++ End ∷ []) × BeginsAs frames c.handed × (is_by_reader c.closed ≡ true → frames ≡ c.handed) × AreDroppedForRoom frames c.handed)

-- ---- a lane

-- what is known of a closing: a session that was closed for no known cause was closed as out of memory
abbrev pub Knows : Option machine.Cause → Option Cause → Type 0
Knows closed None = (closed ≡ None) ⊎ (closed ≡ Some machine.Memory)
Knows closed (Some cause) = closed ≡ Some (cause_view cause)

-- what a lane has taken and put fits the course of its session
pub record FitsCourse (c : Course) (cause : Option Cause) (items : Items) (put : List Sent) (marked ended : Bool) : Type 0 where
  pub took : Took c.closed c.asks items
  pub shut : IsShut c.closed c.shut c.asks items
  pub puts : PutsFrames c marked put
  pub knows : Knows c.closed cause
  pub ends : ended ≡ true → c.is_open ≡ false
  pub opens : is_some c.closed ≡ not c.is_open
  -- a failed write is found only when the writer is joined
  pub unfailed : c.closed ≢ Some machine.WriteFault
  -- the session did not take what was sent to it: more frames than its ring has room for
  pub overrun : c.closed ≡ Some machine.Overrun → most_frames < length c.handed + length c.waiting

-- the end mark was put, or the session is open and nothing waits for it
abbrev pub IsFlushed : Course → Bool → Type 0
IsFlushed c marked = (marked ≡ true) ⊎ ((c.is_open ≡ true) × (c.waiting ≡ []))
