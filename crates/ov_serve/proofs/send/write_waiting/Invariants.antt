use Rattle.std.proofs.Common.{◌≡◌, ℕ, List, [], ◌++◌, length}
use Rattle.ov_specs.specs.machine.History.{joined}
use Rattle.ov_outbox.specs.Frames.{waiting_for}
use Rattle.ov_serve.specs.Serving.{ExtendsHanding}
use Rattle.ov_ends.specs.Ends.{GivesWritten}
use Rattle.ov_serve.proofs.send.write_waiting.Given as goal

abbrev pub invariant-loop-frame : goal.invariant-loop-frame
invariant-loop-frame g l =
    (frames : List (List ℕ)) × ExtendsHanding l.session.serial l.initial.core [] frames l.core
    × (g.W.Sink.bytes_written l.writer ≡ g.W.Sink.bytes_written l.initial.writer ++ joined frames) × (l.core.state ≡ l.initial.core.state)
    × (g.W.Sink.faults l.writer ≡ g.W.Sink.faults l.initial.writer)
    × GivesWritten (g.W.Sink.bytes_written l.initial.writer) (g.W.Sink.contents l.initial.writer) (g.W.Sink.bytes_written l.writer) (g.W.Sink.contents l.writer)
    × (l.core.keeper ≡ l.initial.core.keeper)

abbrev pub decreases-loop-frame : goal.decreases-loop-frame
decreases-loop-frame g l = length (waiting_for l.session.serial l.core.outbox)
