use Rattle.std.proofs.Common.{◌≡◌, [], ◌∷◌, refl, sym, ap, subst, ◌∙◌, List, cond}
use Rattle.std.proofs.lemmas.Bool.{eq-eqb}
use Rattle.ov_specs.specs.machine.Machine.{refused, to_session}
use Rattle.ov_specs.specs.monitors.Monitors.{Monitor, added}
use Rattle.serde_json.specs.View.{view}
use Rattle.ov_specs.specs.monitors.Updates.{initial_of}
use Rattle.ov_specs.specs.wire.Frame.{reply_tree}
use Rattle.ov_live.specs.Handling.{PostsIfRoom}
use Rattle.ov_watch.specs.Watching.{monitors_at}
use Rattle.ov_live.proofs.Refusing.{monitor_refused}
use Rattle.ov_live.proofs.Workings.{SameLive, watch_works, works_over}
use Rattle.ov_live.proofs.live.Live.monitor.Goals as goal

pub returns-in-Ok-add-clause-works : goal.returns-in-Ok-add-clause-works
returns-in-Ok-add-clause-works g c = λ moment.
    let old = c.args.self.now in
    let n = c.args.session in
    let (monitors, given, watches) = rw (c.schema-schema.ensures, c.in-Ok.ensures, c.as_value.ensures.same) at c.in-Ok-add.ensures in
    let its = watches n ∙ ap (λ b. cond b monitors (monitors_at n old.watchers)) (eq-eqb n n refl) in
    let first = initial_of old.database.committed c.args.name.now monitors in
    let posts = subst (λ (ms : List Monitor). PostsIfRoom (to_session n (reply_tree c.args.id (initial_of old.database.committed c.args.name.now ms) ∷ [])) old.outbox.frames c.tell_initial.result c.tell_initial.new.self.outbox.frames) its c.tell_initial.ensures.posts in
    rw given (watch_works moment n c.args.id first monitors old c.add.new.self c.tell_initial.result c.tell_initial.new.self watches c.tell_initial.ensures.same c.tell_initial.ensures.queues posts)

pub returns-in_default-fault : goal.returns-in_default-fault
returns-in_default-fault g c =
    let old = c.args.self.now in
    let mid = record old { watchers = c.add.new.self } in
    let same : SameLive old mid = record { same = refl; watching = λ other. ap (λ w. monitors_at other w) c.in-Err.ensures.1; queues = refl; frames = λ other. refl } in
    let same_given : added c.schema-schema.result.now (monitors_at c.args.session old.watchers) c.in-Ok.copy (view c.as_value.result.now) ≡ added old.database.schema (monitors_at c.args.session old.watchers) c.args.name.now c.args.requests.now =
    rw (c.schema-schema.ensures, c.in-Ok.ensures, c.as_value.ensures.same) refl in
    let (fault, given, text) = monitor_refused c.in-Err.fault _ c.text.result.now c.in_default-fault.not-Memory c.in-Err.ensures.0 c.text.ensures in
    let refusal = sym same_given ∙ given in
    record {
      works = λ moment. rw (refusal, ← text) (works_over moment c.args.session (refused c.args.id c.text.result.now) [] old mid c.refuse.result c.refuse.new.self same (c.refuse.ensures.works moment));
      rest = record { database = c.refuse.ensures.rest.database; tries = c.refuse.ensures.rest.tries; unasked = c.refuse.ensures.rest.unasked };
    }
