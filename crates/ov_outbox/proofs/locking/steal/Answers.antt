use Rattle.std.proofs.Common.{ap}
use Rattle.ov_specs.specs.locks.Queues.{stolen_notification}
use Rattle.ov_specs.specs.wire.Frame.{frame}
use Rattle.ov_outbox.proofs.Rooms.{told-room, TableValue}
use Rattle.ov_outbox.proofs.locking.steal.Goals as goal

pub returns-in-Ok-clause-room : goal.returns-in-Ok-clause-room
returns-in-Ok-clause-room c =
    told-room c.args.name.now c.args.session c.args.locks.now.0 c.requires.order c.args.frames.now c.requires.room
    c.owner-former.result c.in-Ok.told c.keep_place.new.self c.keep_two_for.new.frames c.push_kept.new.self c.tell.new.frames
    c.if-not-keep_place.ensures.places c.if-not-keep_two_for.ensures.places c.push_kept.ensures.places c.tell.ensures.places
    (frame (stolen_notification c.args.name.now)) c.owner-former.ensures c.in-Ok.ensures.told
    c.steal.new.self.0 (ap (λ (t : TableValue). t.0) c.in-Ok.ensures.ok)
