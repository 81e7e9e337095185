-- What serving a session makes of a core, and of the reader, the writer and the clock around it.
use Rattle.std.specs.Prelude.{◌≡◌, ◌⊎◌, ◌≤◌, ℕ, ◌<◌, List, [], ◌∷◌, ◌++◌, length, Bool, true, false, if◌then◌else◌, Option, Some}
use Rattle.std.specs.Io.KnownBytes.{IsAtEnd}
use Rattle.std.specs.List.{All, flat_map}
use Rattle.ov_specs.specs.machine.Machine as machine
use Rattle.ov_specs.specs.machine.Machine.{State, is_open, opening}
use Rattle.ov_specs.specs.schema.SchemaTypes.{Schema}
use Rattle.ov_specs.specs.rows.Database.{Database}
use Rattle.ov_specs.specs.machine.History.{run, joined, out, closed_by}
use Rattle.ov_specs.specs.machine.Streams as streams
use Rattle.ov_specs.specs.machine.Streams.{StreamEvent, Opens, Feed, Passes, Streams, no_streams, ExpandsTimed, fed_state}
use Rattle.ov_history.specs.declared.event.Cause.{Cause}
use Rattle.ov_history.specs.declared.event.Cause.TheVariants.{InputEnded, ReadFault, WriteFault, Damaged, Overrun, Memory}
use Rattle.ov_history.specs.Entries.{is_written}
use Rattle.ov_outbox.specs.Frames.{waiting_for}
use Rattle.ov_core.specs.Following.{CoreState, Follows, CountsWork, and_all_handed}
use Rattle.ov_core.specs.Passing.{is_due}
use Rattle.ov_history.specs.History.{KeepsNewest}
use Rattle.ov_ends.specs.declared.ends.Source as source
use Rattle.ov_ends.specs.declared.ends.Sink as sink
use Rattle.ov_ends.specs.Ends.{one_more, KeepsInput, GivesWritten}
use Rattle.ov_ends.specs.States.{SourceState, source_of, SinkState, sink_of}
use Rattle.ov_ends.specs.Writing.{WritesOf}

-- a core that is served, with the reader, the writer and the clock around it
pub record ServerState (K D C : Type 0) : Type 0 where
  pub core : CoreState K D
  pub reader : SourceState
  pub writer : SinkState
  pub clock : C

-- a core with a source, a sink and a clock
abbrev pub server_of : {K D S W C : Type 0} → source.Ghosts S → sink.Ghosts W → CoreState K D → S → W → C → ServerState K D C
server_of source sink core reader writer clock =
    record { core = core; reader = source_of source reader; writer = sink_of sink writer; clock = clock }

-- ---- frames handed out

-- The core follows the history that it had followed with these entries appended, and these frames of the session were handed
-- out on the way. The core keeps the newest of the entries it had kept and these, and it has counted the work on these.
pub record ExtendsHanding {K D : Type 0} (n : ℕ) (old : CoreState K D) (entries : List machine.Entry)
    (frames : List (List ℕ)) (new : CoreState K D) : Type 0 where
  pub follows : (before : State) (history : List machine.Entry) (given : ℕ → List (List ℕ)) → Follows before history given old
      → Follows before (history ++ entries) (and_all_handed given n frames) new
  pub keeps : KeepsNewest old.kept entries new.kept
  pub counts : CountsWork old entries new

-- ---- what was read

-- A piece: the moment at which it came, its bytes, and whether time then passed to that moment.
pub record Piece : Type 0 where
  pub moment : ℕ
  pub bytes : List ℕ
  pub ticks : Bool

-- pieces, in the order in which they came
abbrev pub Pieces : Type 0
Pieces = List Piece

-- the most bytes of a piece
abbrev pub most_piece_bytes : ℕ
most_piece_bytes = 4096

-- there are some, and no more
abbrev pub IsSized : List ℕ → Type 0
IsSized bytes = (0 < length bytes) × (length bytes ≤ most_piece_bytes)

-- so it is with each piece
abbrev pub ArePieces : Pieces → Type 0
ArePieces pieces = All (λ p. IsSized p.bytes) pieces

-- the bytes of the pieces
abbrev pub bytes_of : Pieces → List ℕ
bytes_of pieces = flat_map (λ p. p.bytes) pieces

-- the stream events of a piece: its bytes come at its moment, and then time passes to it, if it does
abbrev pub piece_events : ℕ → Piece → List (ℕ × StreamEvent)
piece_events n p = (p.moment, Feed n p.bytes) ∷ (if p.ticks then (p.moment, Passes p.moment) ∷ [] else [])

-- the stream events of a session: it opens at the last moment, and then its pieces come
abbrev pub events_of : ℕ → Pieces → List (ℕ × StreamEvent)
events_of n pieces = (0, Opens) ∷ flat_map (piece_events n) pieces

-- the clock reported the moments of the pieces, one after another
abbrev pub TellsMoments : {C : Type 0} → (C → ℕ → C → Type 0) → C → Pieces → C → Type 0
TellsMoments tells old [] new = new ≡ old
TellsMoments {C} tells old (p ∷ pieces) new = (mid : C) × tells old p.moment mid × TellsMoments tells mid pieces new

-- ---- when time passes

-- From this state on, time passes among the entries only if a transaction is due by then.
abbrev pub PassesWhereDue : State → List machine.Entry → Type 0
PassesWhereDue s [] = Unit {0}
PassesWhereDue s (e ∷ entries) =
    (e.event ≡ machine.Tick → is_due e.choice.moment s ≡ true)
    × ((t : machine.Stepped) → machine.step s e ≡ Some t → PassesWhereDue t.state entries)

-- ---- why a session was closed

-- The cause that is reported is that of the history. If a write failed, the stream may have closed the session before.
abbrev pub IsCauseIn : Cause → Option machine.Cause → Type 0
IsCauseIn InputEnded closed = closed ≡ Some machine.InputEnded
IsCauseIn ReadFault closed = closed ≡ Some machine.ReadFault
IsCauseIn WriteFault closed =
    (closed ≡ Some machine.WriteFault) ⊎ ((closed ≡ Some machine.Damaged) ⊎ (closed ≡ Some machine.Memory))
IsCauseIn Damaged closed = closed ≡ Some machine.Damaged
IsCauseIn Memory closed = closed ≡ Some machine.Memory
IsCauseIn Overrun closed = ⊥

-- one entry closes the session for this cause, at the last moment
abbrev pub ClosesAfter : ℕ → machine.Cause → State → List machine.Entry → State → Type 0
ClosesAfter n cause mid last new =
    (entry : machine.Entry) × (t : machine.Stepped) × (last ≡ entry ∷ [])
    × streams.IsEntryAt 0 mid (machine.Close n cause) entry t × (new ≡ t.state)

-- the session was closed by what was read, and no entry follows
abbrev pub ClosesWithin : ℕ → State → List machine.Entry → State → Type 0
ClosesWithin n mid last new = (is_open mid n ≡ false) × (last ≡ []) × (new ≡ mid)

-- how the session was closed, by the cause that is reported
abbrev pub ClosesFor : ℕ → Cause → State → List machine.Entry → State → Type 0
ClosesFor n InputEnded mid last new = ClosesAfter n machine.InputEnded mid last new
ClosesFor n ReadFault mid last new = ClosesAfter n machine.ReadFault mid last new
ClosesFor n WriteFault mid last new = ClosesWithin n mid last new ⊎ ClosesAfter n machine.WriteFault mid last new
ClosesFor n Damaged mid last new = ClosesWithin n mid last new
ClosesFor n Memory mid last new = ClosesWithin n mid last new
ClosesFor n Overrun mid last new = ⊥

-- ---- a session

-- What a history from a state on says of a session at its end, by the bytes written before it and after it: all that the
-- history sends the session was written, or a beginning of that if a write failed; and the history closes the session for
-- the cause that is reported.
pub record EndsServing (before : State) (history : List machine.Entry) (n : ℕ) (cause : Cause)
    (said said' : List ℕ) : Type 0 where
  pub reached : machine.Stepped
  pub legal : run before history ≡ Some reached
  pub written : WritesOf (is_written cause) (out n reached.sent) said said'
  pub closed_for : IsCauseIn cause (closed_by before history n)

-- What was done from the opening of the session to its closing. Time passes only if a waiting transaction is due.
pub record Served {K D C : Type 0} (tells : C → ℕ → C → Type 0) (n : ℕ) (old : ServerState K D C) (cause : Cause)
    (new : ServerState K D C) : Type 0 where
  -- what the core entered, what it handed out, and what was read
  pub entries : List machine.Entry
  pub frames : List (List ℕ)
  pub pieces : Pieces
  pub extends : ExtendsHanding n old.core entries frames new.core
  pub read : new.reader.read ≡ old.reader.read ++ bytes_of pieces
  pub sizes : ArePieces pieces
  pub moments : TellsMoments tells old.clock pieces new.clock
  -- the entries are those of the stream events, and then perhaps a closing
  pub front : List machine.Entry
  pub last : List machine.Entry
  pub mid : State
  pub streams : Streams
  pub parts : entries ≡ front ++ last
  pub expands : ExpandsTimed (fed_state old.core.state no_streams) (events_of n pieces) front (fed_state mid streams)
  pub stream : streams n ≡ bytes_of pieces
  pub ticks : PassesWhereDue old.core.state front
  pub closes : ClosesFor n cause mid last new.core.state
  pub shut : is_open new.core.state n ≡ false
  -- the frames were written, and none is left waiting; or a beginning of them if a write failed
  pub written : WritesOf (is_written cause) (joined frames) old.writer.written new.writer.written
  pub none_left : is_written cause ≡ true → waiting_for n new.core.outbox ≡ []
  -- whatever history the core has followed from its opening, this is what it says of the session with the entries appended
  pub ends : (schema : Schema) (database : Database) (history : List machine.Entry) (given : ℕ → List (List ℕ))
      → Follows (opening schema database) history given old.core
      → EndsServing (opening schema database) (history ++ entries) n cause old.writer.written new.writer.written

-- What the ends say of a cause: the input ended only if the reader met its end, and a failure is counted if one is reported
-- and never otherwise.
abbrev pub CauseMatchesCounts : Cause → Bool → ℕ → ℕ → ℕ → ℕ → Type 0
CauseMatchesCounts InputEnded at_end reads reads' writes writes' = (at_end ≡ true) × (reads' ≡ reads) × (writes' ≡ writes)
CauseMatchesCounts ReadFault at_end reads reads' writes writes' = (reads' ≡ one_more reads) × (writes' ≡ writes)
CauseMatchesCounts WriteFault at_end reads reads' writes writes' = (reads' ≡ reads) × (writes' ≡ one_more writes)
CauseMatchesCounts Damaged at_end reads reads' writes writes' = (reads' ≡ reads) × (writes' ≡ writes)
CauseMatchesCounts Memory at_end reads reads' writes writes' = (reads' ≡ reads) × (writes' ≡ writes)
CauseMatchesCounts Overrun at_end reads reads' writes writes' = ⊥

-- The next session of the core was served to its closing, for this cause. If no write failed, what was written is flushed. What
-- was read is of what the reader had, all of it if its end is reported, and what was written is what the writer was given.
pub record ServesSession {K D C : Type 0} (tells : C → ℕ → C → Type 0) (old : ServerState K D C) (cause : Cause)
    (new : ServerState K D C) : Type 0 where
  pub served : Served tells old.core.state.next old cause new
  pub flushed : is_written cause ≡ true → new.writer.is_flushed ≡ true
  pub counts : CauseMatchesCounts cause new.reader.at_end old.reader.faults new.reader.faults old.writer.faults new.writer.faults
  pub input : KeepsInput old.reader.read old.reader.remaining new.reader.read new.reader.remaining
  pub all : cause ≡ InputEnded → IsAtEnd new.reader.remaining
  pub given : GivesWritten old.writer.written old.writer.contents new.writer.written new.writer.contents
