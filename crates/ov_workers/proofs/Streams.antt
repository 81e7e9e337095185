-- A stream that was read, one piece after another.
use Rattle.std.proofs.Common.{◌≡◌, ℕ, ◌<◌, List, [], ◌++◌, take, Some, refl, sym, ap, ◌∙◌, append_assoc, append-nil, arith}
use Rattle.std.specs.Io.KnownBytes.{IsAtEnd}
use Rattle.ov_ends.specs.States.{SourceState}
use Rattle.ov_cut.specs.CutterState.{CutterState, HasCut}
use Rattle.ov_ends.specs.Ends.{one_more, met_end, KeepsInput}
use Rattle.ov_ends.proofs.Tellings.{input-more, input-same}
use Rattle.ov_cut.specs.declared.fault.StreamFault.{StreamFault}
use Rattle.ov_cut.specs.declared.fault.StreamFault.TheVariants as fault
use Rattle.ov_workers.specs.declared.cause.ReadCause.TheVariants.{InputEnded, ReadFault}
use Rattle.ov_workers.specs.Reading.{Item}
use Rattle.ov_workers.specs.Bringing.{IsBrought, BroughtSoFar, ReadsToEnd, read_cause_of}
use Rattle.ov_workers.proofs.Bringing.{brought_none, at_input_end, at_read_fault}

-- the stream was read so far, which is not damaged, and the messages that it asks for were brought
pub record ReadSoFar (old new : SourceState) (cutter : CutterState) (items : List Item) : Type 0 where
  pub stream : List ℕ
  pub read : new.read ≡ old.read ++ stream
  pub brought : IsBrought stream cutter items
  pub faults : new.faults ≡ old.faults
  pub input : KeepsInput old.read old.remaining new.read new.remaining

pub read_none : (s : SourceState) (cutter : CutterState) (items : List Item) → HasCut [] [] cutter → items ≡ [] → ReadSoFar s s cutter items
read_none s cutter items cuts none = record {
  stream = [];
  read = sym (append-nil s.read);
  brought = brought_none cutter items cuts none;
  faults = refl;
  input = input-same s.read s.remaining;
}

module _ (old mid new : SourceState) (cutter : CutterState) (items : List Item) (so_far : ReadSoFar old mid cutter items) (input : KeepsInput mid.read mid.remaining new.read new.remaining) where
  input_on : KeepsInput old.read old.remaining new.read new.remaining
  input_on = input-more old.read mid.read new.read old.remaining mid.remaining new.remaining so_far.input input

  read_on : (piece : List ℕ) → new.read ≡ mid.read ++ piece → new.read ≡ old.read ++ (so_far.stream ++ piece)
  read_on piece read = read ∙ (ap (λ (l : List ℕ). l ++ piece) so_far.read ∙ append_assoc old.read so_far.stream piece)

  -- a read failed
  pub then_failed : new.read ≡ mid.read → new.faults ≡ one_more mid.faults → ReadsToEnd ReadFault old new items
  then_failed same bad = record {
    stream = so_far.stream;
    read = same ∙ so_far.read;
    brought = at_read_fault so_far.stream cutter items so_far.brought;
    suits = bad ∙ ap one_more so_far.faults;
    input = input_on;
  }

  -- the input ended
  pub then_ended : (piece : List ℕ) (n room : ℕ) → n ≡ 0 → room ≡ 4096 → new.read ≡ mid.read ++ take n piece → new.faults ≡ mid.faults → new.at_end ≡ met_end n room mid.at_end → (n ≡ 0 → 0 < room → IsAtEnd new.remaining)
      → ReadsToEnd InputEnded old new items
  then_ended piece n room none wide read good end all = record {
    stream = so_far.stream;
    read = read ∙ (ap (λ (k : ℕ). mid.read ++ take k piece) none ∙ (append-nil mid.read ∙ so_far.read));
    brought = at_input_end so_far.stream cutter items so_far.brought;
    suits = (end ∙ (ap (λ (k : ℕ). met_end k room mid.at_end) none ∙ ap (λ (r : ℕ). met_end 0 r mid.at_end) wide), all none (omega arith), good ∙ so_far.faults);
    input = input_on;
  }

  -- a piece was read
  module _ (piece : List ℕ) (read : new.read ≡ mid.read ++ piece) (good : new.faults ≡ mid.faults) (cutter' : CutterState) (items' : List Item) where
    -- the stream goes on
    pub then_read : IsBrought (so_far.stream ++ piece) cutter' items' → ReadSoFar old new cutter' items'
    then_read brought = record {
      stream = so_far.stream ++ piece;
      read = read_on piece read;
      brought = brought;
      faults = good ∙ so_far.faults;
      input = input_on;
    }

    -- the stream ended by itself
    pub then_over : (why : StreamFault) → BroughtSoFar (Some why) (so_far.stream ++ piece) cutter' items' → ReadsToEnd (read_cause_of why) old new items'
    then_over fault.Damaged brought = record {
      stream = so_far.stream ++ piece;
      read = read_on piece read;
      brought = brought;
      suits = good ∙ so_far.faults;
      input = input_on;
    }
    then_over fault.Memory brought = record {
      stream = so_far.stream ++ piece;
      read = read_on piece read;
      brought = brought;
      suits = good ∙ so_far.faults;
      input = input_on;
    }
