-- What was brought of a stream so far; for private clauses.
use Rattle.std.specs.Prelude.{◌≡◌, ℕ, ◌++◌, List, map, Option, Some, None}
use Rattle.ov_ends.specs.States.{SourceState}
use Rattle.ov_specs.specs.wire.Message as wire
use Rattle.ov_specs.specs.wire.Message.{asked}
use Rattle.ov_cut.specs.declared.fault.StreamFault.{StreamFault}
use Rattle.ov_cut.specs.declared.fault.StreamFault.TheVariants as fault
use Rattle.ov_cut.specs.CutterState.{CutterState}
use Rattle.ov_cut.specs.Reading.{IsFed}
use Rattle.ov_ends.specs.Ends.{KeepsInput}
use Rattle.ov_order.specs.declared.items.Brought.TheVariants.{Message}
use Rattle.ov_workers.specs.declared.cause.ReadCause.{ReadCause}
use Rattle.ov_workers.specs.declared.cause.ReadCause.TheVariants.{Damaged, Memory}
use Rattle.ov_workers.specs.Stream.{AreReadUntil}
use Rattle.ov_workers.specs.Reading.{Item, SuitsSource}

-- the messages were brought
abbrev pub BringsAll : List wire.Message → List Item → List Item → Type 0
BringsAll messages old new = new ≡ old ++ map Message messages

-- the cutter was given this stream, which is not damaged, and the messages that it asks for were brought
pub record IsBrought (stream : List ℕ) (cutter : CutterState) (items : List Item) : Type 0 where
  pub fed : IsFed stream cutter
  pub brought : items ≡ map Message (asked stream).messages

-- the stream ended for this cause, and the messages that it asks for were brought
pub record IsBroughtToEnd (cause : ReadCause) (stream : List ℕ) (items : List Item) : Type 0 where
  pub messages : List wire.Message
  pub brought : items ≡ map Message messages
  pub asks : AreReadUntil cause messages (asked stream)

-- why a reader ends if its stream has this fault
abbrev pub read_cause_of : StreamFault → ReadCause
read_cause_of fault.Damaged = Damaged
read_cause_of fault.Memory = Memory

-- what was brought of a stream: it goes on, or it ended by itself
abbrev pub BroughtSoFar : Option StreamFault → List ℕ → CutterState → List Item → Type 0
BroughtSoFar None stream cutter items = IsBrought stream cutter items
BroughtSoFar (Some why) stream cutter items = IsBroughtToEnd (read_cause_of why) stream items

-- the stream was read to its end, and the messages that it asks for were brought
pub record ReadsToEnd (cause : ReadCause) (old new : SourceState) (items : List Item) : Type 0 where
  pub stream : List ℕ
  pub read : new.read ≡ old.read ++ stream
  pub brought : IsBroughtToEnd cause stream items
  pub suits : SuitsSource cause old new
  pub input : KeepsInput old.read old.remaining new.read new.remaining
