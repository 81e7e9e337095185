use Rattle.rtrb.specs.Ring.{sent}
use Rattle.ov_ends.specs.States.{source_of}
use Rattle.ov_workers.specs.Inlet.{SameInlet}
use Rattle.ov_workers.proofs.Streams.{ReadSoFar}
use Rattle.ov_workers.proofs.reader.read_messages.Given as goal

-- What was read so far is not damaged, and the messages that it asks for were brought.
abbrev pub invariant-loop : goal.invariant-loop
invariant-loop g l = record {
  inlet : SameInlet l.initial.inlet l.inlet;
  read : ReadSoFar (source_of g.S.Source l.initial.reader)
      (source_of g.S.Source l.reader) l.cutter (sent l.inlet.ring);
}
