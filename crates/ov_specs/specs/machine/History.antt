-- Histories: where a list of entries leads, what it sends, and what it asked.
use Rattle.std.specs.Prelude.{ℕ, ◌==◌, ◌&&◌, not, List, [], ◌∷◌, ◌++◌, map, filter, if◌then◌else◌, Option, Some, None, option_map, option_and_then}
use Rattle.std.specs.List.{flat_map}
use Rattle.std.specs.Option.{option_or}
use Rattle.ov_specs.specs.wire.Message.{Message}
use Rattle.ov_specs.specs.wire.Frame.{frame}
use Rattle.ov_specs.specs.machine.Machine.{State, Event, Open, Take, Close, Tick, Cause, Memory, Entry, Sent, Stepped, step, is_open}

-- these are sent first, and then what was sent on the way
abbrev pub then_sends : List Sent → Stepped → Stepped
then_sends sent s = record s { sent = sent ++ s.sent }

-- the state after the entries, and all that they send, or None if a choice does not suit where it stands
abbrev pub run : State → List Entry → Option Stepped
run s [] = Some (record { state = s; sent = [] })
run s (e ∷ entries) = option_and_then (λ t. option_map (then_sends t.sent) (run t.state entries)) (step s e)

-- the frames sent to a session, in order
abbrev pub frames_to : ℕ → List Sent → List (List ℕ)
frames_to session sent = map (λ t. frame t.tree) (filter (λ t. t.session == session) sent)

-- the frames one after another, with nothing between two of them
abbrev pub joined : List (List ℕ) → List ℕ
joined frames = flat_map (λ bytes. bytes) frames

-- the bytes sent to a session
abbrev pub out : ℕ → List Sent → List ℕ
out session sent = joined (frames_to session sent)

-- the message that the event takes from a session
abbrev pub taken_by : ℕ → Event → List Message
taken_by session Open = []
taken_by session (Take other message) = if other == session then message ∷ [] else []
taken_by session (Close other cause) = []
taken_by session Tick = []

-- the messages taken from a session, in order
abbrev pub requests : List Entry → ℕ → List Message
requests history session = flat_map (λ e. taken_by session e.event) history

-- why the event closes the session, if it does: a Close of it gives its own cause; any other event does so when out of memory
abbrev pub cause_in : ℕ → Event → Cause
cause_in session Open = Memory
cause_in session (Take other message) = Memory
cause_in session (Close other cause) = if other == session then cause else Memory
cause_in session Tick = Memory

-- why the event between these two states closes the session, if it does: it is open before, and not after
abbrev pub closing_cause : ℕ → State → Event → State → Option Cause
closing_cause session before event after =
    if is_open before session && not (is_open after session) then Some (cause_in session event) else None

-- why one of the entries closed the session, starting from this state; a serial is never used again
abbrev pub closed_by : State → List Entry → ℕ → Option Cause
closed_by s [] session = None
closed_by s (e ∷ history) session =
    option_and_then (λ t. option_or (closing_cause session s e.event t.state) (closed_by t.state history session)) (step s e)
