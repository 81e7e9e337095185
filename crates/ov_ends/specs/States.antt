-- What contracts see of a reader and of a writer.
use Rattle.std.specs.Prelude.{ℕ, List, Bool, Option}
use Rattle.ov_ends.specs.declared.ends.Source as source
use Rattle.ov_ends.specs.declared.ends.Sink as sink

-- of a reader: what it read, what remains if that is known, whether its end was met, and how many reads failed
pub record SourceState : Type 0 where
  pub read : List ℕ
  pub remaining : Option (List ℕ)
  pub at_end : Bool
  pub faults : ℕ

-- these four
abbrev pub source_state : List ℕ → Option (List ℕ) → Bool → ℕ → SourceState
source_state read remaining at_end faults = record { read = read; remaining = remaining; at_end = at_end; faults = faults }

-- those of a source
abbrev pub source_of : {S : Type 0} → source.Ghosts S → S → SourceState
source_of g s = source_state (g.bytes_read s) (g.remaining s) (g.at_end s) (g.faults s)

-- of a writer: what was written to it, what it holds and has handed on if that is known, whether nothing is held, and how
-- many writes and flushes failed
pub record SinkState : Type 0 where
  pub written : List ℕ
  pub contents : Option (List ℕ)
  pub is_flushed : Bool
  pub faults : ℕ

-- these four
abbrev pub sink_state : List ℕ → Option (List ℕ) → Bool → ℕ → SinkState
sink_state written contents is_flushed faults =
    record { written = written; contents = contents; is_flushed = is_flushed; faults = faults }

-- those of a sink
abbrev pub sink_of : {W : Type 0} → sink.Ghosts W → W → SinkState
sink_of g w = sink_state (g.bytes_written w) (g.contents w) (g.is_flushed w) (g.faults w)
