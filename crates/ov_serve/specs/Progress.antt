-- What is done of a session on the way; for private clauses.
use Rattle.std.specs.Prelude.{◌≡◌, ℕ, List, [], ◌∷◌, ◌++◌, Bool, true, false, Some, None, MatchBool}
use Rattle.ov_specs.specs.machine.Machine as machine
use Rattle.ov_specs.specs.machine.Machine.{State, Sent, is_open}
use Rattle.ov_specs.specs.machine.History.{run, joined, closed_by}
use Rattle.ov_specs.specs.machine.Streams as streams
use Rattle.ov_specs.specs.machine.Streams.{Streams, no_streams, ExpandsTimed, fed_state}
use Rattle.ov_cut.specs.CutterState.{CutterState}
use Rattle.ov_cut.specs.Reading.{IsFed}
use Rattle.ov_outbox.specs.Frames.{waiting_for}
use Rattle.ov_core.specs.Following.{CoreState, Timed}
use Rattle.ov_core.specs.Passing.{is_due}
use Rattle.ov_streams.specs.Entering.{ExtendsByStep}
use Rattle.ov_streams.specs.Feeding.{FedPiece, EntersPiece}
use Rattle.ov_ends.specs.Writing.{WritesOf}
use Rattle.ov_serve.specs.Serving.{ServerState, ExtendsHanding, Pieces, ArePieces, bytes_of, events_of, TellsMoments, PassesWhereDue}

-- ---- what is written

-- These frames were handed out of the session and written, and no other waits; or a beginning of them was written.
pub record Sends {K D : Type 0} (n : ℕ) (is_whole : Bool) (old new : CoreState K D) (said said' : List ℕ) : Type 0 where
  pub frames : List (List ℕ)
  pub extends : ExtendsHanding n old [] frames new
  pub written : WritesOf is_whole (joined frames) said said'
  pub none_left : is_whole ≡ true → waiting_for n new.outbox ≡ []

-- ---- why a session was closed

-- why a session was closed by its stream, by the event that closed it: damage, or a failed allocation
abbrev pub stream_cause : machine.Event → machine.Cause
stream_cause (machine.Close session machine.Damaged) = machine.Damaged
stream_cause event = machine.Memory

-- the last of these entries, from this state on, closed the session, by its stream
pub record IsShut (n : ℕ) (before : State) (entries : List machine.Entry) : Type 0 where
  pub front : List machine.Entry
  pub last : machine.Entry
  pub parts : entries ≡ front ++ last ∷ []
  pub cause : closed_by before entries n ≡ Some (stream_cause last.event)

-- The entries lead from the one state to the other. There the session is open, and none of them closed it; or the last of
-- them did, by its stream.
pub record StandsAfter (n : ℕ) (before : State) (entries : List machine.Entry) (s : State) : Type 0 where
  pub sent : List Sent
  pub leads : run before entries ≡ Some (record { state = s; sent = sent })
  pub stands : MatchBool (is_open s n) (closed_by before entries n ≡ None) (IsShut n before entries)

-- ---- a piece

-- time passed to the moment, or to the last one if that is later, because a transaction is due by the moment
pub record PassesDue {K D : Type 0} (at : ℕ) (old new : CoreState K D) : Type 0 where
  pub is_due : is_due at old.state ≡ true
  pub entry : machine.Entry
  pub step : machine.Stepped
  pub adds : ExtendsByStep old entry step new
  pub is : streams.IsEntryAt at old.state machine.Tick entry step

-- time passed so, or nothing was done
abbrev pub PassesIf : {K D : Type 0} → Bool → ℕ → CoreState K D → CoreState K D → Type 0
PassesIf true at old new = PassesDue at old new
PassesIf false at old new = new ≡ old

-- A piece of a session's stream was entered at the moment that the clock reported. Then time passed to it, if the session
-- is still open and a transaction is due; unless that was refused, and then not all was done.
pub record ServesPiece {K D C : Type 0} (tells : C → ℕ → C → Type 0) (piece : FedPiece) (old : Timed K D C)
    (is_all : Bool) (new : Timed K D C) (cutter : CutterState) : Type 0 where
  pub at : ℕ
  pub reported : tells old.clock at new.clock
  pub mid : CoreState K D
  pub enters : EntersPiece at piece old.core mid cutter
  pub ticks : Bool
  pub passes : PassesIf ticks at mid new.core
  pub still : ticks ≡ true → is_open mid.state piece.session ≡ true
  pub given : is_all ≡ true → is_open mid.state piece.session ≡ true → ticks ≡ is_due at mid.state

-- ---- a session

-- What was done since the core was `old`: the session was opened, these pieces of it were read and entered, and all of these
-- frames were written, or a beginning of them.
pub record ServedSoFar {K D C : Type 0} (tells : C → ℕ → C → Type 0) (n : ℕ) (is_whole : Bool)
    (old new : ServerState K D C) : Type 0 where
  pub entries : List machine.Entry
  pub frames : List (List ℕ)
  pub pieces : Pieces
  pub streams : Streams
  pub extends : ExtendsHanding n old.core entries frames new.core
  pub read : new.reader.read ≡ old.reader.read ++ bytes_of pieces
  pub written : WritesOf is_whole (joined frames) old.writer.written new.writer.written
  pub expands : ExpandsTimed (fed_state old.core.state no_streams) (events_of n pieces) entries (fed_state new.core.state streams)
  pub stream : streams n ≡ bytes_of pieces
  pub ticks : PassesWhereDue old.core.state entries
  pub sizes : ArePieces pieces
  pub moments : TellsMoments tells old.clock pieces new.clock
  pub serial : n ≡ old.core.state.next
  pub stands : StandsAfter n old.core.state entries new.core.state

-- the same; the cutter was given what was read, while the session is open
pub record ServedAndFed {K D C : Type 0} (tells : C → ℕ → C → Type 0) (n : ℕ) (old new : ServerState K D C)
    (cutter : CutterState) : Type 0 where
  pub done : ServedSoFar tells n true old new
  pub fed : is_open new.core.state n ≡ true → IsFed (bytes_of done.pieces) cutter
