use Rattle.std.proofs.Common.{[], refl}
use Rattle.ov_locks.specs.Calls.{lock_call_view}
use Rattle.ov_specs.specs.machine.Machine.{refused}
use Rattle.ov_live.proofs.Refusing.{lock_refused}
use Rattle.ov_live.proofs.Workings.{SameLive, lock_works, works_over}
use Rattle.ov_live.proofs.live.Live.ask_lock.Goals as goal

pub returns-in-Ok-clause-works : goal.returns-in-Ok-clause-works
returns-in-Ok-clause-works g c = λ moment.
    lock_works moment c.args.session (lock_call_view c.args.call) c.args.id c.args.name.now c.args.self.now c.ask.new.self c.in-Ok.ensures.goes c.in-Ok.ensures.queues c.in-Ok.ensures.sends

pub returns-in_default : goal.returns-in_default
returns-in_default g c =
    let old = c.args.self.now in
    let mid = record old { outbox = c.ask.new.self } in
    let same : SameLive old mid = record { same = refl; watching = λ other. refl; queues = c.in-Err.ensures.queues; frames = c.in-Err.ensures.frames } in
    let why = lock_refused c.in-Err.fault _ c.text.result.now c.in_default.not-Memory c.in-Err.ensures.text c.text.ensures in
    record {
      works = λ moment. rw why (works_over moment c.args.session (refused c.args.id c.text.result.now) [] old mid c.refuse.result c.refuse.new.self same (c.refuse.ensures.works moment));
      rest = record { database = c.refuse.ensures.rest.database; tries = c.refuse.ensures.rest.tries; unasked = c.refuse.ensures.rest.unasked };
    }
