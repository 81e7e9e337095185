-- What the serving of a session comes to, for its reader and its writer.
use Rattle.std.specs.Prelude.{◌≡◌, ◌≢◌, ◌<◌, ◌⊎◌, ℕ, ◌++◌, List, Bool, true, false, Option, Some, length}
use Rattle.std.specs.Io.KnownBytes.{IsAtEnd}
use Rattle.ov_specs.specs.wire.Beginning.{BeginsAs}
use Rattle.ov_ends.specs.States.{SourceState, SinkState}
use Rattle.ov_specs.specs.wire.Message.{Message, asked}
use Rattle.ov_specs.specs.machine.Machine as machine
use Rattle.ov_specs.specs.machine.History.{joined}
use Rattle.ov_ends.specs.Ends.{one_more, KeepsInput, GivesWritten}
use Rattle.ov_ends.specs.Writing.{WritesOf}
use Rattle.ov_lanes.specs.Courses.{Course}
use Rattle.ov_lanes.specs.Fitting.{is_of_reader, most_frames, AreDroppedForRoom}
use Rattle.ov_workers.specs.LinkStates.{LinkState}

-- at most one read failed
abbrev pub FailsAtMostOnce : SourceState → SourceState → Type 0
FailsAtMostOnce source source' = (source'.faults ≡ source.faults) ⊎ (source'.faults ≡ one_more source.faults)

-- What the reader reports when its end closes the session: the input ended and its stream is whole; or a read failed; or its
-- stream is damaged. No other read failed. Whatever closes it, at most one read failed.
abbrev pub SuitsReader : machine.Cause → Bool → SourceState → SourceState → Type 0
SuitsReader machine.InputEnded damaged source source' =
    (damaged ≡ false) × (source'.at_end ≡ true) × IsAtEnd source'.remaining × (source'.faults ≡ source.faults)
SuitsReader machine.ReadFault damaged source source' = (damaged ≡ false) × (source'.faults ≡ one_more source.faults)
SuitsReader machine.WriteFault damaged source source' = FailsAtMostOnce source source'
SuitsReader machine.Damaged damaged source source' = (damaged ≡ true) × (source'.faults ≡ source.faults)
SuitsReader machine.Overrun damaged source source' = FailsAtMostOnce source source'
SuitsReader machine.Memory damaged source source' = FailsAtMostOnce source source'

-- what the writer reports: all was written and flushed, or one more write failed
abbrev pub SuitsWriter : Bool → SinkState → SinkState → Type 0
SuitsWriter true sink sink' = (sink'.is_flushed ≡ true) × (sink'.faults ≡ sink.faults)
SuitsWriter false sink sink' = sink'.faults ≡ one_more sink.faults

-- what a history says of a session: why it was closed, if it was, the messages taken from it, and the frames sent to it
pub record Account : Type 0 where
  pub closed : Option machine.Cause
  pub messages : List Message
  pub sent : List (List ℕ)

-- what the course of a session says of it, once all frames were handed out
abbrev pub account_of : Course → Account
account_of c = record { closed = c.closed; messages = c.asks; sent = c.handed }

-- how a session ended: why it was closed, and whether all that was to be written was written, since no write failed
pub record Finish : Type 0 where
  pub why : machine.Cause
  pub is_whole : Bool

-- The session was closed for this cause. The messages taken from it are the first that its stream asks for, and all of them
-- if its reader closed it. What was written are the first of the frames that were sent to it, and all of them if its reader
-- closed it or its ring has room for them; or a beginning of that if a write failed. A session that was closed as Overrun was
-- sent more frames than its ring has room for.
pub record LinkOutcome (says : Account) (finish : Finish) (old new : LinkState) : Type 0 where
  pub closed_for : says.closed ≡ Some finish.why
  pub unfailed : finish.why ≢ machine.WriteFault
  pub stream : List ℕ
  pub read : new.source.read ≡ old.source.read ++ stream
  pub asks : BeginsAs says.messages (asked stream).messages
  pub all_asked : is_of_reader finish.why ≡ true → says.messages ≡ (asked stream).messages
  pub reader : SuitsReader finish.why (asked stream).damaged old.source new.source
  pub input : KeepsInput old.source.read old.source.remaining new.source.read new.source.remaining
  pub frames : List (List ℕ)
  pub sends : BeginsAs frames says.sent
  pub all_sent : is_of_reader finish.why ≡ true → frames ≡ says.sent
  pub dropped : AreDroppedForRoom frames says.sent
  pub written : WritesOf finish.is_whole (joined frames) old.sink.written new.sink.written
  pub writer : SuitsWriter finish.is_whole old.sink new.sink
  pub given : GivesWritten old.sink.written old.sink.contents new.sink.written new.sink.contents
  pub overrun : finish.why ≡ machine.Overrun → most_frames < length says.sent
