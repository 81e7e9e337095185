-- What is read of a stream that arrives in pieces.
use Rattle.std.specs.Prelude.{◌≡◌, ℕ, ◌++◌, List, [], ◌∷◌, Bool, true, false, Option, Some, None, Result, Ok, Err}
use Rattle.ov_specs.specs.wire.Beginning.{BeginsAs}
use Rattle.ov_specs.specs.wire.Message.{Message, Asked, asked, asked_of, message_in}
use Rattle.ov_cut.specs.declared.fault.CutFault.{CutFault}
use Rattle.ov_cut.specs.declared.fault.CutFault.TheVariants as fault
use Rattle.ov_cut.specs.declared.fault.StreamFault.{StreamFault}
use Rattle.ov_cut.specs.declared.fault.StreamFault.TheVariants.{Damaged, Memory}
use Rattle.ov_cut.specs.CutterState.{CutterState, HasCut}

-- the cutter was given this stream, which is not damaged
pub record IsFed (stream : List ℕ) (cutter : CutterState) : Type 0 where
  pub given : List (List ℕ)
  pub cuts : HasCut stream given cutter
  pub whole : (asked stream).damaged ≡ false

-- The messages are those that a stream asks for, and it is not damaged, or damaged after them; if an allocation failed, some
-- may be missing at the end.
abbrev pub AreRead : Option StreamFault → List Message → Asked → Type 0
AreRead None messages a = a ≡ record { messages = messages; damaged = false }
AreRead (Some Damaged) messages a = a ≡ record { messages = messages; damaged = true }
AreRead (Some Memory) messages a = BeginsAs messages a.messages

-- These messages were read of a piece after this stream: with them, what the longer stream asks for was read. Without a fault
-- the cutter was given that stream.
pub record ReadsPiece (stream piece : List ℕ) (messages : List Message) (fault : Option StreamFault)
    (cutter : CutterState) : Type 0 where
  pub asks : AreRead fault ((asked stream).messages ++ messages) (asked (stream ++ piece))
  pub goes_on : fault ≡ None → IsFed (stream ++ piece) cutter

-- ---- for private clauses

-- these messages in front
abbrev pub with_all : List Message → Asked → Asked
with_all messages a = record a { messages = messages ++ a.messages }

-- The messages of some texts were read, and then comes what the others ask for; or they were read up to a fault.
abbrev pub ReadsFront : Option StreamFault → List Message → Asked → Asked → Type 0
ReadsFront None messages all others = all ≡ with_all messages others
ReadsFront (Some why) messages all others = AreRead (Some why) messages all

-- the message of the text stands after the earlier ones; or the text is unreadable, or an allocation failed
abbrev pub ReadsText : List ℕ → List Message → Result (Unit {0}) StreamFault → List Message → Type 0
ReadsText text before (Ok done) after = (message : Message) × (message_in text ≡ Some message) × (after ≡ before ++ message ∷ [])
ReadsText text before (Err Damaged) after = (message_in text ≡ None) × (after ≡ before)
ReadsText text before (Err Memory) after = after ≡ before

-- these messages were read of these texts, whatever texts and damage follow
abbrev pub ReadsTexts : List (List ℕ) → List Message → Option StreamFault → Type 0
ReadsTexts texts messages why =
    (others : List (List ℕ)) (damaged : Bool)
    → ReadsFront why messages (asked_of (texts ++ others) damaged) (asked_of others damaged)

-- why reading ended: by a text, or else by the cutter
abbrev pub first_fault : Option StreamFault → Option CutFault → Option StreamFault
first_fault (Some why) cut = Some why
first_fault None None = None
first_fault None (Some (fault.Damaged offset)) = Some Damaged
first_fault None (Some fault.TooLong) = Some Damaged
first_fault None (Some fault.Memory) = Some Memory
