-- How a piece of an open session's stream changes a core and its cutter.
use Rattle.std.specs.Prelude.{◌≡◌, ℕ, ◌==◌, ◌++◌, List, Bool, true, false}
use Rattle.std.specs.List.{list_all}
use Rattle.ov_specs.specs.wire.Message.{Message, asked}
use Rattle.ov_specs.specs.machine.Machine as machine
use Rattle.ov_specs.specs.machine.Machine.{Entry, is_open}
use Rattle.ov_specs.specs.machine.Streams.{Feeds, delivered}
use Rattle.ov_cut.specs.CutterState.{CutterState}
use Rattle.ov_cut.specs.Reading.{IsFed}
use Rattle.ov_core.specs.Following.{CoreState, Extends}

-- a piece of a session's stream: the session, its stream before the piece, and the bytes of the piece
pub record FedPiece : Type 0 where
  pub session : ℕ
  pub stream : List ℕ
  pub bytes : List ℕ

-- the piece with these bytes, after this stream of the session
abbrev pub fed_piece : ℕ → List ℕ → List ℕ → FedPiece
fed_piece session stream bytes = record { session = session; stream = stream; bytes = bytes }

-- a message of the session was taken, or it was closed
abbrev pub is_event_of : ℕ → machine.Event → Bool
is_event_of session machine.Open = false
is_event_of session (machine.Take other message) = other == session
is_event_of session (machine.Close other cause) = other == session
is_event_of session machine.Tick = false

-- the entry's event is one of the session
abbrev pub is_entry_of : ℕ → Entry → Bool
is_entry_of session entry = is_event_of session entry.event

-- entries of this session alone were entered
pub record EntersOwn {K D : Type 0} (session : ℕ) (old new : CoreState K D) : Type 0 where
  pub entries : List Entry
  pub own : list_all (is_entry_of session) entries ≡ true
  pub enters : Extends old entries new

-- The messages that the piece ends were entered, and then damage, if it is new. If the session is still open, the cutter was
-- given the longer stream.
pub record EntersPiece {K D : Type 0} (at : ℕ) (piece : FedPiece) (old new : CoreState K D) (cutter : CutterState) : Type 0 where
  pub messages : List Message
  pub more : (asked (piece.stream ++ piece.bytes)).messages ≡ (asked piece.stream).messages ++ messages
  pub entries : List Entry
  pub feeds : Feeds (delivered at piece.session) old.state messages
      (asked (piece.stream ++ piece.bytes)).damaged entries new.state
  pub enters : Extends old entries new
  pub goes_on : is_open new.state piece.session ≡ true → IsFed (piece.stream ++ piece.bytes) cutter
