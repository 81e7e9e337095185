-- What contracts see of pipes.
use Rattle.ov_ends.specs.declared.ends.Source as source
use Rattle.ov_ends.specs.declared.ends.Sink as sink
use Rattle.ov_ends.specs.States.{SourceState, source_of, SinkState, sink_of}
use Rattle.ov_listen.specs.declared.pipes.Pipes.{Pipes}

-- a reader, a writer and a clock
pub record PipesState (C : Type 0) : Type 0 where
  pub reader : SourceState
  pub writer : SinkState
  pub clock : C

-- those of pipes
abbrev pub pipes_state : {S W C : Type 0} → source.Ghosts S → sink.Ghosts W → Pipes S W C → PipesState C
pipes_state source sink pipes =
    record { reader = source_of source pipes.reader; writer = sink_of sink pipes.writer; clock = pipes.clock }
