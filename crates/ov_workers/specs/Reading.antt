-- What a reader's worker did from its beginning to its end.
use Rattle.std.specs.Prelude.{◌≡◌, ℕ, ◌++◌, List, [], ◌∷◌, map, true}
use Rattle.std.specs.Io.KnownBytes.{IsAtEnd}
use Rattle.ov_specs.specs.wire.Message as wire
use Rattle.ov_specs.specs.wire.Message.{asked}
use Rattle.ov_ends.specs.Ends.{one_more, KeepsInput}
use Rattle.ov_ends.specs.States.{SourceState}
use Rattle.ov_order.specs.declared.items.Brought.{Brought}
use Rattle.ov_order.specs.declared.items.Brought.TheVariants.{Message, End}
use Rattle.ov_workers.specs.declared.cause.ReadCause.{ReadCause}
use Rattle.ov_workers.specs.declared.cause.ReadCause.TheVariants.{InputEnded, ReadFault, Damaged, Memory}
use Rattle.ov_workers.specs.Stream.{AreReadUntil}

-- an item in the ring of a reader
abbrev pub Item : Type 0
Item = Brought wire.Message ReadCause

-- What the reader reports of a cause: it met its end and all of the input was read; or one more read failed. A failure is
-- counted nowhere else.
abbrev pub SuitsSource : ReadCause → SourceState → SourceState → Type 0
SuitsSource InputEnded old new = (new.at_end ≡ true) × IsAtEnd new.remaining × (new.faults ≡ old.faults)
SuitsSource ReadFault old new = new.faults ≡ one_more old.faults
SuitsSource Damaged old new = new.faults ≡ old.faults
SuitsSource Memory old new = new.faults ≡ old.faults

-- The items brought are the messages that the bytes read since asked for, and the end mark with the cause.
pub record BringsItems (cause : ReadCause) (old new : SourceState) (items : List Item) : Type 0 where
  pub stream : List ℕ
  pub read : new.read ≡ old.read ++ stream
  pub messages : List wire.Message
  pub brought : items ≡ map Message messages ++ End cause ∷ []
  pub asks : AreReadUntil cause messages (asked stream)
  pub suits : SuitsSource cause old new
  pub input : KeepsInput old.read old.remaining new.read new.remaining
