-- Which lists of stream events a core with its streams has followed.
use Rattle.std.specs.Prelude.{◌≡◌, ℕ, ◌++◌, List, map, Option, IsSomeAnd, true}
use Rattle.std.specs.Map.{lookup}
use Rattle.std.specs.BTreeMap.{is_at}
use Rattle.std.specs.Ordering.{nat_cmp}
use Rattle.ov_cut.specs.CutterState.{CutterState}
use Rattle.ov_cut.specs.Reading.{IsFed}
use Rattle.ov_specs.specs.machine.Machine as machine
use Rattle.ov_specs.specs.machine.Machine.{Entry, State, opening, is_open}
use Rattle.ov_specs.specs.schema.SchemaTypes.{Schema}
use Rattle.ov_specs.specs.rows.Database.{Database}
use Rattle.ov_specs.specs.machine.Streams as streams
use Rattle.ov_specs.specs.machine.Streams.{Streams, no_streams, ExpandsAll, fed_state}
use Rattle.ov_history.specs.declared.event.StepFault.{StepFault}
use Rattle.ov_core.specs.Following.{CoreState, Follows, CountsWork}
use Rattle.ov_core.specs.Stepping.{RefusesStep}
use Rattle.ov_streams.specs.declared.event.StreamEvent.{StreamEvent}
use Rattle.ov_streams.specs.declared.event.StreamEvent.TheVariants.{Open, Feed, Finish, Tick}

-- an event of the code as that of the definitions
abbrev pub stream_event_view : StreamEvent → streams.StreamEvent
stream_event_view Open = streams.Opens
stream_event_view (Feed session bytes) = streams.Feed session bytes
stream_event_view (Finish session) = streams.Finish session
stream_event_view (Tick moment) = streams.Passes moment

-- a list of events
abbrev pub stream_events_view : List StreamEvent → List streams.StreamEvent
stream_events_view events = map stream_event_view events

-- what contracts see: the core, and the cutters by the serials of their sessions
pub record StreamsState (K D : Type 0) : Type 0 where
  pub core : CoreState K D
  pub cutters : List (ℕ × CutterState)

-- the cutter of a session, if it has one
abbrev pub cutter_of : ℕ → List (ℕ × CutterState) → Option CutterState
cutter_of n cutters = lookup (is_at (nat_cmp n)) cutters

-- the session has a cutter that was given its stream, which is not damaged
abbrev pub HasCutter : ℕ → List ℕ → List (ℕ × CutterState) → Type 0
HasCutter n stream cutters = IsSomeAnd (cutter_of n cutters) (IsFed stream)

-- The list of events expands to the history that the core has followed from its opening, and each open session has a cutter
-- that was given its stream.
pub record FollowsEvents {K D : Type 0} (schema : Schema) (database : Database) (list : List streams.StreamEvent)
    (history : List Entry) (given : ℕ → List (List ℕ)) (now : StreamsState K D) : Type 0 where
  pub fed : Streams
  pub follows : Follows (opening schema database) history given now.core
  pub expands : ExpandsAll (fed_state (opening schema database) no_streams) list history (fed_state now.core.state fed)
  pub cutters : (n : ℕ) → is_open now.core.state n ≡ true → HasCutter n (fed n) now.cutters

-- Whatever list the streams suited before, they suit it with these events appended, and the core has counted the work on the
-- entries that they expand to.
abbrev pub RunsEvents : {K D : Type 0} → List streams.StreamEvent → StreamsState K D → StreamsState K D → Type 0
RunsEvents events old new =
    (schema : Schema) (database : Database) (list : List streams.StreamEvent) (history : List Entry) (given : ℕ → List (List ℕ))
    → FollowsEvents schema database list history given old
    → (entries : List Entry) × FollowsEvents schema database (list ++ events) (history ++ entries) given new
    × CountsWork old.core entries new.core

-- An event is refused in a state if the machine's step for it is, with the fault of that step: an opening or a passing of
-- time may be refused; a piece or the end of a session's input never is.
abbrev pub RefusesEvent : StreamEvent → State → StepFault → Type 0
RefusesEvent Open s fault = RefusesStep machine.Open s fault
RefusesEvent (Feed session bytes) s fault = ⊥
RefusesEvent (Finish session) s fault = ⊥
RefusesEvent (Tick moment) s fault = RefusesStep machine.Tick s fault
