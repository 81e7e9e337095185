use Rattle.std.proofs.Common.{◌++◌, Bool, true, sym, ap, ◌∙◌, subst}
use Rattle.rtrb.specs.Ring.{sent, received, known_items}
use Rattle.ov_ends.specs.States.{source_of, sink_of}
use Rattle.ov_threads.specs.Handing.{kept_if}
use Rattle.ov_lanes.specs.Fitting.{FitsCourse}
use Rattle.ov_hall.proofs.Sides.{ends_for}
use Rattle.ov_hall.proofs.Seats.{pair_outbound, pair_inbound}
use Rattle.ov_hall.proofs.finish.join_workers.Goals as goal

pub slots_beside-requires : goal.slots_beside-requires
slots_beside-requires g c =
    let k = c.requires.link in let r = c.join-read.ensures.reading k.0.reader k.1.0 in
    pair_outbound c.args.workers.reading.handle.promise.inlet.value.ring c.join-read.result.0.inlet.ring c.args.lane.inbound r.0.0 c.requires.workers.1.reads

pub slots_beside-requires-2 : goal.slots_beside-requires-2
slots_beside-requires-2 g c =
    let k = c.requires.link in let r = c.join-read.ensures.writing k.0.writer k.1.1 in
    pair_inbound c.args.lane.outbound c.args.workers.writing.handle.promise.ring.value c.join-read.result.1.ring r.0 c.requires.workers.1.writes

pub returns-clause-ends : goal.returns-clause-ends
returns-clause-ends g c k link course f =
    let lane = c.args.lane in let left = c.join-read.result.0 in let wrote = c.join-read.result.1 in
    let r = c.join-read.ensures.reading k.reader link.0 in let v = c.join-read.ensures.writing k.writer link.1 in
    let source = λ (s : _). source_of g.S.Source s in let sink = λ (s : _). sink_of g.W.Sink s in
    let over : FitsCourse course lane.cause (received lane.inbound) (sent lane.outbound) true true =
    subst (λ (b : Bool). FitsCourse course lane.cause (received lane.inbound) (sent lane.outbound) b true) c.requires.over.1
    (subst (λ (b : Bool). FitsCourse course lane.cause (received lane.inbound) (sent lane.outbound) lane.marked b) c.requires.over.0 f) in
    let rest = known_items c.slots_beside.new.self in let coming = known_items c.slots_beside-2.new.self in
    ends_for course lane.cause (received lane.inbound) rest (sent left.inlet.ring) (sent lane.outbound) (received wrote.ring) coming over
    (source k.reader) (source left.last.value) (sink k.writer) (sink wrote.last.value) left.cause wrote.failed c.reported_cause.result
    (ap (λ x. x ++ rest) (sym c.slots_beside.ensures.looked.1) ∙ (c.slots_beside.ensures.fifo ∙ c.slots_beside.ensures.producer.1))
    (ap (λ x. x ++ coming) (sym c.slots_beside-2.ensures.looked.1) ∙ (c.slots_beside-2.ensures.fifo ∙ c.slots_beside-2.ensures.producer.1))
    r.1 v.1 c.reported_cause.ensures

pub returns-clause-keep : goal.returns-clause-keep
returns-clause-keep g c keeps works =
    let left = c.join-read.result.0 in let wrote = c.join-read.result.1 in let k = c.requires.link in
    let r = c.join-read.ensures.reading k.0.reader k.1.0 in let v = c.join-read.ensures.writing k.0.writer k.1.1 in
    (r.2 ∙ ap (λ (b : Bool). kept_if b left.last.value) works.keep.0, v.2 ∙ ap (λ (b : Bool). kept_if b wrote.last.value) works.keep.1)
