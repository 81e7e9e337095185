use Rattle.std.proofs.Common.{List, [], refl, sym, subst, take, arith}
use Rattle.std.proofs.lemmas.List.{append-nil}
use Rattle.ov_specs.specs.machine.Streams.{StreamEvent}
use Rattle.ov_streams.specs.Running.{RunsEvents, RefusesEvent, stream_events_view}
use Rattle.ov_streams.proofs.Suiting.{serves_none, serves_more, view_more, event_at}
use Rattle.ov_streams.proofs.streams.Streams.run.Goals as goal

pub loop-event-init : goal.loop-event-init
loop-event-init g c = record { count = refl; serves = serves_none c.args.self.now; honest = λ honest. honest }

pub loop-event-preserved : goal.loop-event-preserved
loop-event-preserved g c =
    let inv = c.loop-event.invariant in
    record {
      count = omega arith;
      serves = subst (λ (l : List StreamEvent). RunsEvents l c.args.self.now c.serve.new.self) (sym (view_more c.deref-event-items.result.now c.loop-event.event-index c.event-item.result c.loop-event-test.true c.event-item.is))
          (serves_more _ _ _ _ _ inv.serves c.in_default.ensures.serves);
      honest = λ honest. inv.honest (c.serve.ensures.honest honest);
    }

pub returns-in-Err-clause-suits : goal.returns-in-Err-clause-suits
returns-in-Err-clause-suits g c =
    let inv = c.loop-event.invariant in
    let events = stream_events_view (take c.loop-event.event-index c.deref-event-items.result.now) in
    rw (← c.deref-event-items.ensures.value, inv.count) (subst (λ (l : List StreamEvent). RunsEvents l c.args.self.now c.serve.new.self) (append-nil events) (serves_more events [] _ _ _ inv.serves c.in-Err.ensures.serves.0))

pub returns-in-Err-clause-refused : goal.returns-in-Err-clause-refused
returns-in-Err-clause-refused g c =
    let inv = c.loop-event.invariant in
    rw (← c.deref-event-items.ensures.value, inv.count)
    (event_at (λ event. RefusesEvent event c.serve.new.self.core.state c.in-Err.fault) c.deref-event-items.result.now c.loop-event.event-index c.event-item.result c.loop-event-test.true c.event-item.is c.in-Err.ensures.serves.1)

pub returns-clause-suits : goal.returns-clause-suits
returns-clause-suits g c =
    let inv = c.loop-event.invariant in
    rw (← c.deref-event-items.ensures.value, inv.count) inv.serves
