use Rattle.std.proofs.Common.{◌≡◌}
use Rattle.ov_specs.specs.machine.Machine.{Open}
use Rattle.ov_history.specs.declared.event.Stepped.TheVariants.{Opened}
use Rattle.ov_core.specs.Following.{CoreState}
use Rattle.ov_core.specs.Stepping.{IsEntered}
use Rattle.ov_ends.specs.Ends.{KeepsInput, GivesWritten}
use Rattle.ov_serve.specs.Serving.{server_of}
use Rattle.ov_serve.specs.Progress.{ServedAndFed}
use Rattle.ov_serve.proofs.serve.serve_session.Given as goal

abbrev pub invariant-loop : goal.invariant-loop
invariant-loop g l =
    ((first : CoreState g.row.K.Denot g.row.D.Denot) → IsEntered g.D.Draws.draws first.state.moment Open first (Opened l.session) l.initial.core
    → ServedAndFed g.C.Clock.tells l.session.serial (server_of g.S.Source g.W.Sink first l.initial.reader l.initial.writer l.initial.clock) (server_of g.S.Source g.W.Sink l.core l.reader l.writer l.clock) l.cutter)
    × (g.S.Source.faults l.reader ≡ g.S.Source.faults l.initial.reader) × (g.W.Sink.faults l.writer ≡ g.W.Sink.faults l.initial.writer)
    × KeepsInput (g.S.Source.bytes_read l.initial.reader) (g.S.Source.remaining l.initial.reader) (g.S.Source.bytes_read l.reader) (g.S.Source.remaining l.reader)
    × GivesWritten (g.W.Sink.bytes_written l.initial.writer) (g.W.Sink.contents l.initial.writer) (g.W.Sink.bytes_written l.writer) (g.W.Sink.contents l.writer)
    × (g.K.Keeper.is_honest l.core.keeper → g.K.Keeper.is_honest l.initial.core.keeper)
