-- What contracts see of the two ends of a link.
use Rattle.std.specs.Prelude.{◌≡◌, [], false}
use Rattle.ov_ends.specs.States.{SourceState, SinkState, source_of, sink_of}
use Rattle.ov_ends.specs.declared.ends.Source as reading
use Rattle.ov_ends.specs.declared.ends.Sink as writing

-- of its reader and of its writer
pub record LinkState : Type 0 where
  pub source : SourceState
  pub sink : SinkState

-- these two
abbrev pub link_state : SourceState → SinkState → LinkState
link_state source sink = record { source = source; sink = sink }

-- those of a source and a sink
abbrev pub ends_of : {S W : Type 0} → reading.Ghosts S → writing.Ghosts W → S → W → LinkState
ends_of reads writes reader writer = link_state (source_of reads reader) (sink_of writes writer)

-- nothing was read from it, and nothing was written to it; no read or write failed, and the end of the input was not met
pub record IsNewLink (link : LinkState) : Type 0 where
  pub read : link.source.read ≡ []
  pub at_end : link.source.at_end ≡ false
  pub read_faults : link.source.faults ≡ 0
  pub written : link.sink.written ≡ []
  pub write_faults : link.sink.faults ≡ 0
