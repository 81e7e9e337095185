use Rattle.rtrb.specs.Ring.{received, SameConsumer}
use Rattle.ov_ends.specs.States.{sink_of}
use Rattle.ov_workers.proofs.Frames.{WrittenSoFar}
use Rattle.ov_workers.proofs.writer.write_all.Given as goal

-- Frames were taken so far, and all of them were written.
abbrev pub invariant-loop : goal.invariant-loop
invariant-loop g l = record {
  ring : SameConsumer l.initial.ring l.ring;
  wrote : WrittenSoFar (sink_of g.W.Sink l.initial.writer)
      (sink_of g.W.Sink l.writer) (received l.ring);
}
