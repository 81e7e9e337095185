use Rattle.std.proofs.Common.{sym, ap, ◌∙◌, not}
use Rattle.std.specs.Prelude.{is_some}
use Rattle.ov_outbox.proofs.Rooms.{waits-room, owner-room, TableValue}
use Rattle.ov_outbox.proofs.locking.lock.Goals as goal

pub returns-then-is_first-clause-room : goal.returns-then-is_first-clause-room
returns-then-is_first-clause-room c =
    owner-room c.args.name.now c.args.session c.args.locks.now.0 c.requires.order c.args.frames.now c.requires.room
    c.keep_two_for.new.frames c.push_kept.new.self c.if-not-keep_two_for.ensures.places c.push_kept.ensures.places
    c.lock.new.self.0 (ap (λ (t : TableValue). t.0) c.in-Ok.ensures.ok)
    c.give_up_place.new.self c.give_up_place.ensures.places
    (sym (ap is_some c.owner.ensures) ∙ (c.is_none-is_first.ensures ∙ ap not c.if-is_first.true))

pub returns-else-is_first-clause-room : goal.returns-else-is_first-clause-room
returns-else-is_first-clause-room c =
    waits-room c.args.name.now c.args.session c.args.locks.now.0 c.requires.order c.args.frames.now c.requires.room
    c.keep_two_for.new.frames c.push_kept.new.self c.if-not-keep_two_for.ensures.places c.push_kept.ensures.places
    c.lock.new.self.0 (ap (λ (t : TableValue). t.0) c.in-Ok.ensures.ok)
