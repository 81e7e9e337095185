-- Messages that were brought as they were read of a stream.
use Rattle.std.proofs.Common.{◌≡◌, ℕ, List, [], ◌∷◌, ◌++◌, map, Bool, false, Option, Some, None, refl, sym, ap, ◌∙◌, append_assoc, append-nil}
use Rattle.std.proofs.lemmas.List.{map-append}
use Rattle.ov_specs.specs.wire.Message as wire
use Rattle.ov_specs.specs.wire.Message.{Asked, asked}
use Rattle.ov_cut.specs.declared.fault.StreamFault.{StreamFault}
use Rattle.ov_cut.specs.declared.fault.StreamFault.TheVariants as fault
use Rattle.ov_cut.specs.CutterState.{CutterState, HasCut}
use Rattle.ov_cut.specs.Reading.{AreRead, ReadsPiece}
use Rattle.ov_cut.proofs.Pieces.{fed_none, nothing_asked}
use Rattle.ov_order.specs.declared.items.Brought.TheVariants.{Message}
use Rattle.ov_workers.specs.declared.cause.ReadCause.TheVariants.{InputEnded, ReadFault}
use Rattle.ov_workers.specs.Reading.{Item}
use Rattle.ov_workers.specs.Bringing.{BringsAll, IsBrought, IsBroughtToEnd, BroughtSoFar, read_cause_of}

-- ---- messages, one after another

pub brings_next : (all mid new : List Item) (rest later : List wire.Message) (message : wire.Message) → mid ++ map Message rest ≡ all → rest ≡ message ∷ later → new ≡ mid ++ Message message ∷ [] → new ++ map Message later ≡ all
brings_next all mid new rest later message so_far is brought =
    ap (λ (l : List Item). l ++ map Message later) brought ∙ (append_assoc mid (Message message ∷ []) (map Message later)
    ∙ (ap (λ (ms : List wire.Message). mid ++ map Message ms) (sym is) ∙ so_far))

pub brings_last : (all now : List Item) (rest : List wire.Message) → now ++ map Message rest ≡ all → rest ≡ [] → now ≡ all
brings_last all now rest so_far none = sym (append-nil now) ∙ (ap (λ (ms : List wire.Message). now ++ map Message ms) (sym none) ∙ so_far)

-- ---- a piece

module _ (stream piece : List ℕ) (messages : List wire.Message) (before after : CutterState) (old new : List Item) (f : IsBrought stream before old) (brings : BringsAll messages old new) where
  -- all messages so far
  all_brought : new ≡ map Message ((asked stream).messages ++ messages)
  all_brought = brings ∙ (ap (λ (l : List Item). l ++ map Message messages) f.brought ∙ sym (map-append Message (asked stream).messages messages))

  to_end : (why : StreamFault) → AreRead (Some why) ((asked stream).messages ++ messages) (asked (stream ++ piece)) → IsBroughtToEnd (read_cause_of why) (stream ++ piece) new
  to_end fault.Damaged asks = record { messages = (asked stream).messages ++ messages; brought = all_brought; asks = asks }
  to_end fault.Memory asks = record { messages = (asked stream).messages ++ messages; brought = all_brought; asks = asks }

  pub brings_piece : (why : Option StreamFault) → ReadsPiece stream piece messages why after → BroughtSoFar why (stream ++ piece) after new
  brings_piece None r = record { fed = r.goes_on refl; brought = all_brought ∙ ap (λ (a : Asked). map Message a.messages) (sym r.asks) }
  brings_piece (Some why) r = to_end why r.asks

-- ---- the end of the input

-- a cutter that has not been used yet
pub brought_none : (cutter : CutterState) (items : List Item) → HasCut [] [] cutter → items ≡ [] → IsBrought [] cutter items
brought_none cutter items cuts none = record { fed = fed_none cutter cuts; brought = none ∙ sym (ap (λ (a : Asked). map Message a.messages) nothing_asked) }

-- the input ended, or a read failed, and nothing is damaged
module _ (stream : List ℕ) (cutter : CutterState) (items : List Item) (f : IsBrought stream cutter items) where
  whole : asked stream ≡ record { messages = (asked stream).messages; damaged = false }
  whole = ap (λ (d : Bool). record { messages = (asked stream).messages; damaged = d }) f.fed.whole

  pub at_input_end : IsBroughtToEnd InputEnded stream items
  at_input_end = record { messages = (asked stream).messages; brought = f.brought; asks = whole }

  pub at_read_fault : IsBroughtToEnd ReadFault stream items
  at_read_fault = record { messages = (asked stream).messages; brought = f.brought; asks = whole }
