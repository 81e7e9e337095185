use Rattle.std.proofs.Common.{ap, sym, subst, ◌∙◌}
use Rattle.ov_outbox.specs.Frames.{WaitingFrames}
use Rattle.ov_outbox.specs.Outbox.{Outbox}
use Rattle.ov_outbox.specs.Waits.{HasPlaces}
use Rattle.ov_specs.specs.locks.Queues.{Queues, owns}
use Rattle.ov_specs.specs.operations.Transaction.{TransactionOutcome, transaction}
use Rattle.ov_live.specs.States.{machine_sessions}
use Rattle.ov_live.specs.declared.replying.Audience.{Audience}
use Rattle.ov_live.proofs.Prepared.{tried_room, tried_keeps, trial_answered, trial_stored, trial_blocked}
use Rattle.ov_live.proofs.attempt.try_once.Goals as goal

pub send_prepared-queues-requires : goal.send_prepared-queues-requires
send_prepared-queues-requires g c =
    let to : Queues → TransactionOutcome = λ q. transaction c.args.db.now.schema c.args.db.now.committed (owns q c.args.asked.session) c.args.asked.txn.now.draws c.args.asked.age c.args.asked.txn.now.operations in
    record {
      room = tried_room (to c.into_parts-queues.result.1.0) c.args.db.now c.new-replying.result c.new-replying.ensures.prepared c.attempt-tried.result c.attempt-tried.new.db c.attempt-tried.new.ready c.attempt-tried.ensures.tried;
    }

pub from_parts-requires-clause-room : goal.from_parts-requires-clause-room
from_parts-requires-clause-room g c =
    let to : Queues → TransactionOutcome = λ q. transaction c.args.db.now.schema c.args.db.now.committed (owns q c.args.asked.session) c.args.asked.txn.now.draws c.args.asked.age c.args.asked.txn.now.operations in
    tried_keeps (to c.into_parts-queues.result.1.0) c.args.db.now c.new-replying.result c.new-replying.ensures.prepared c.attempt-tried.result c.attempt-tried.new.db c.attempt-tried.new.ready c.attempt-tried.ensures.tried
    c.into_parts-queues.result.1.0 c.send_prepared-queues.result (subst (λ (w : WaitingFrames). HasPlaces w c.into_parts-queues.result.1.0) (sym c.new-replying.ensures.queues) c.into_parts-queues.ensures.room) c.send_prepared-queues.ensures.places

pub returns-in-Answer-clause-tried : goal.returns-in-Answer-clause-tried
returns-in-Answer-clause-tried g c =
    let to : Queues → TransactionOutcome = λ q. transaction c.args.db.now.schema c.args.db.now.committed (owns q c.args.asked.session) c.args.asked.txn.now.draws c.args.asked.age c.args.asked.txn.now.operations in
    trial_answered (machine_sessions c.args.audience.watchers.now c.args.audience.sessions.now.open_sessions) c.args.asked.session c.args.asked.id.now to c.args.outbox.now.queues c.into_parts-queues.result.1.0
    c.args.db.now c.attempt-tried.new.db c.new-replying.result c.attempt-tried.new.ready c.attempt-tried.result c.args.outbox.now.frames c.send_prepared-queues.result c.from_parts.result.frames
    (c.into_parts-queues.ensures.queues ∙ ap (λ (o : Outbox). o.queues) c.replace.ensures.value)
    (c.new-replying.ensures.queues ∙ (c.into_parts-queues.ensures.frames ∙ ap (λ (o : Outbox). o.frames) c.replace.ensures.value))
    (ap (λ (o : Outbox). o.frames) c.from_parts.ensures) c.attempt-tried.ensures.tried c.send_prepared-queues.ensures.sent
    c.in-Answer.results c.answer.result c.answer.new.outbox.frames c.in-Answer.is c.answer.ensures.posts

pub returns-in-Stored-clause-tried : goal.returns-in-Stored-clause-tried
returns-in-Stored-clause-tried g c =
    let to : Queues → TransactionOutcome = λ q. transaction c.args.db.now.schema c.args.db.now.committed (owns q c.args.asked.session) c.args.asked.txn.now.draws c.args.asked.age c.args.asked.txn.now.operations in
    trial_stored (machine_sessions c.args.audience.watchers.now c.args.audience.sessions.now.open_sessions) c.args.asked.session c.args.asked.id.now to c.args.outbox.now.queues c.into_parts-queues.result.1.0
    c.args.db.now c.attempt-tried.new.db c.new-replying.result c.attempt-tried.new.ready c.attempt-tried.result c.args.outbox.now.frames c.send_prepared-queues.result c.from_parts.result.frames
    (c.into_parts-queues.ensures.queues ∙ ap (λ (o : Outbox). o.queues) c.replace.ensures.value)
    (c.new-replying.ensures.queues ∙ (c.into_parts-queues.ensures.frames ∙ ap (λ (o : Outbox). o.frames) c.replace.ensures.value))
    (ap (λ (o : Outbox). o.frames) c.from_parts.ensures) c.attempt-tried.ensures.tried c.send_prepared-queues.ensures.sent
    c.in-Stored.answer c.outcome_of.result c.in-Stored.is c.outcome_of.ensures c.new-replying.ensures.prepared c.new-replying.ensures.session c.new-replying.ensures.id
    (ap (λ (a : Audience). machine_sessions a.watchers.now a.sessions.now.open_sessions) c.new-replying.ensures.audience)

pub returns-in-Blocked-clause-tried : goal.returns-in-Blocked-clause-tried
returns-in-Blocked-clause-tried g c =
    let to : Queues → TransactionOutcome = λ q. transaction c.args.db.now.schema c.args.db.now.committed (owns q c.args.asked.session) c.args.asked.txn.now.draws c.args.asked.age c.args.asked.txn.now.operations in
    trial_blocked (machine_sessions c.args.audience.watchers.now c.args.audience.sessions.now.open_sessions) c.args.asked.session c.args.asked.id.now to c.args.outbox.now.queues c.into_parts-queues.result.1.0
    c.args.db.now c.attempt-tried.new.db c.new-replying.result c.attempt-tried.new.ready c.attempt-tried.result c.args.outbox.now.frames c.send_prepared-queues.result c.from_parts.result.frames
    (c.into_parts-queues.ensures.queues ∙ ap (λ (o : Outbox). o.queues) c.replace.ensures.value)
    (c.new-replying.ensures.queues ∙ (c.into_parts-queues.ensures.frames ∙ ap (λ (o : Outbox). o.frames) c.replace.ensures.value))
    (ap (λ (o : Outbox). o.frames) c.from_parts.ensures) c.attempt-tried.ensures.tried c.send_prepared-queues.ensures.sent
    c.in-Blocked.timeout c.in-Blocked.is
