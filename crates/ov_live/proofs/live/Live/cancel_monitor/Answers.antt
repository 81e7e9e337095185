use Rattle.std.proofs.Common.{[], refl, ap}
use Rattle.serde_json.specs.Data.{object, no_members}
use Rattle.ov_specs.specs.machine.Machine.{refused}
use Rattle.ov_watch.specs.Watching.{monitors_at}
use Rattle.ov_live.proofs.Refusing.{monitor_refused}
use Rattle.ov_live.proofs.Workings.{SameLive, watch_works, works_over}
use Rattle.ov_live.proofs.live.Live.cancel_monitor.Goals as goal

pub returns-in-Ok-clause-works : goal.returns-in-Ok-clause-works
returns-in-Ok-clause-works g c = λ moment.
    let old = c.args.self.now in
    let (monitors, given, watches) = c.in-Ok.ensures in
    rw given (watch_works moment c.args.session c.args.id (object no_members) monitors old c.cancel.new.self c.answer.result c.answer.new.self watches c.answer.ensures.same c.answer.ensures.queues (rw c.nothing-told.ensures at c.answer.ensures.posts))

pub returns-in_default : goal.returns-in_default
returns-in_default g c =
    let old = c.args.self.now in
    let mid = record old { watchers = c.cancel.new.self } in
    let same : SameLive old mid = record { same = refl; watching = λ other. ap (λ w. monitors_at other w) c.in-Err.ensures.1; queues = refl; frames = λ other. refl } in
    let (fault, given, text) = monitor_refused c.in-Err.fault _ c.text.result.now c.in_default.not-Memory c.in-Err.ensures.0 c.text.ensures in
    record {
      works = λ moment. rw (given, ← text) (works_over moment c.args.session (refused c.args.id c.text.result.now) [] old mid c.refuse.result c.refuse.new.self same (c.refuse.ensures.works moment));
      rest = record { database = c.refuse.ensures.rest.database; tries = c.refuse.ensures.rest.tries; unasked = c.refuse.ensures.rest.unasked };
    }
