use Rattle.std.proofs.Common.{◌≡◌, ℕ, List, ◌++◌, length}
use Rattle.ov_ends.specs.Ends.{GivesWritten}
use Rattle.ov_ends.proofs.write.write_frame.Given as goal

abbrev pub invariant-loop-rest : goal.invariant-loop-rest
invariant-loop-rest g l =
    (written : List ℕ) × (g.W.Sink.bytes_written l.writer ≡ g.W.Sink.bytes_written l.initial.writer ++ written) × (written ++ l.rest ≡ l.bytes)
    × (g.W.Sink.faults l.writer ≡ g.W.Sink.faults l.initial.writer)
    × GivesWritten (g.W.Sink.bytes_written l.initial.writer) (g.W.Sink.contents l.initial.writer) (g.W.Sink.bytes_written l.writer) (g.W.Sink.contents l.writer)

abbrev pub decreases-loop-rest : goal.decreases-loop-rest
decreases-loop-rest g l = length l.rest
