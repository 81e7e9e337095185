use Rattle.std.proofs.Common.{◌≡◌, List, ◌++◌, ◌∷◌, [], map, rules, ap, ◌∙◌}
use Rattle.rtrb.specs.Ring.{received}
use Rattle.ov_ends.specs.States.{SinkState, sink_of}
use Rattle.ov_order.specs.declared.items.Sent.{Sent}
use Rattle.ov_order.specs.declared.items.Sent.TheVariants.{Frame, End}
use Rattle.ov_workers.proofs.Frames.{written_none, written_same, written_more, failed_flush, failed_write, written_all}
use Rattle.ov_workers.proofs.writer.write_all.Goals as goal

pub loop-init : goal.loop-init
loop-init g c = record {
  ring = search rules;
  wrote = written_none (sink_of g.W.Sink c.args.writer.now) (received c.args.ring.now) c.requires;
}

pub returns-in-Some-End-clause-wrote : goal.returns-in-Some-End-clause-wrote
returns-in-Some-End-clause-wrote g c =
    let old : SinkState = sink_of g.W.Sink c.args.writer.now in
    let mid : SinkState = sink_of g.W.Sink c.loop.writer in
    let item : SinkState = sink_of g.W.Sink c.next_item.new.writer in
    let new : SinkState = sink_of g.W.Sink c.flush.new.self in
    let taken : received c.next_item.new.ring ≡ received c.loop.ring ++ End ∷ [] = rw c.in-Some-End.field-0-is at c.in-Some-End.ensures.taken in
    written_all old item (received c.loop.ring) (written_same old mid (received c.loop.ring) c.loop.invariant.wrote item c.next_item.ensures.written c.in-Some-End.ensures.faults c.next_item.ensures.given)
    c.flush.result new (received c.next_item.new.ring) taken c.flush.ensures.trace c.flush.ensures.flushed c.flush.ensures.good c.flush.ensures.bad c.flush.ensures.given

pub returns-then-not-write_frame-clause-wrote : goal.returns-then-not-write_frame-clause-wrote
returns-then-not-write_frame-clause-wrote g c =
    let old : SinkState = sink_of g.W.Sink c.args.writer.now in
    let mid : SinkState = sink_of g.W.Sink c.loop.writer in
    let item : SinkState = sink_of g.W.Sink c.next_item.new.writer in
    let new : SinkState = sink_of g.W.Sink c.write_frame.new.writer in
    let taken : received c.next_item.new.ring ≡ received c.loop.ring ++ Frame c.in-Some-Frame.frame ∷ [] = rw c.in-Some-Frame.field-0-is at c.in-Some-Frame.ensures.taken in
    failed_write old item (received c.loop.ring) (written_same old mid (received c.loop.ring) c.loop.invariant.wrote item c.next_item.ensures.written c.in-Some-Frame.ensures.faults c.next_item.ensures.given)
    new (received c.next_item.new.ring) (received c.drop_frames.new.ring) c.in-Some-Frame.frame c.as_slice.result.now c.drop_frames.ensures.taken.0 taken c.drop_frames.ensures.taken.1 c.as_slice.ensures
    c.if-not-write_frame.ensures.written c.if-not-write_frame.ensures.faults c.write_frame.ensures.given

pub returns-in-None-next_item-clause-wrote : goal.returns-in-None-next_item-clause-wrote
returns-in-None-next_item-clause-wrote g c =
    let old : SinkState = sink_of g.W.Sink c.args.writer.now in
    let mid : SinkState = sink_of g.W.Sink c.loop.writer in
    let new : SinkState = sink_of g.W.Sink c.next_item.new.writer in
    let dropped = c.drop_frames-in-None-next_item.ensures.taken in
    failed_flush old mid (received c.loop.ring) c.loop.invariant.wrote new (received c.drop_frames-in-None-next_item.new.ring) dropped.0
    (dropped.1 ∙ ap (λ (l : List Sent). l ++ (map Frame dropped.0 ++ End ∷ [])) c.in-None-next_item.ensures.taken) c.next_item.ensures.written c.in-None-next_item.ensures.faults c.next_item.ensures.given

pub loop-preserved : goal.loop-preserved
loop-preserved g c =
    let old : SinkState = sink_of g.W.Sink c.args.writer.now in
    let mid : SinkState = sink_of g.W.Sink c.loop.writer in
    let item : SinkState = sink_of g.W.Sink c.next_item.new.writer in
    let new : SinkState = sink_of g.W.Sink c.write_frame.new.writer in
    let taken : received c.next_item.new.ring ≡ received c.loop.ring ++ Frame c.in-Some-Frame.frame ∷ [] = rw c.in-Some-Frame.field-0-is at c.in-Some-Frame.ensures.taken in
    record {
      ring = search rules;
      wrote = written_more old item (received c.loop.ring) (written_same old mid (received c.loop.ring) c.loop.invariant.wrote item c.next_item.ensures.written c.in-Some-Frame.ensures.faults c.next_item.ensures.given)
          new (received c.next_item.new.ring) c.in-Some-Frame.frame c.as_slice.result.now taken c.as_slice.ensures c.if-not-write_frame.ensures.written c.if-not-write_frame.ensures.faults c.write_frame.ensures.given;
    }
