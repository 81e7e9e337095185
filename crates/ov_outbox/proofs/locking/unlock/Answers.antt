use Rattle.std.proofs.Common.{refl, sym, ap, ◌∙◌}
use Rattle.std.specs.Prelude.{Ok}
use Rattle.ov_specs.specs.locks.Queues.{has_requested, next_owner}
use Rattle.ov_locks.specs.Freeing.{owner_notified}
use Rattle.ov_outbox.proofs.Rooms.{next-place, unlock-room, waiter-room, unlock-sends, unlocks, TableValue}
use Rattle.ov_outbox.proofs.locking.unlock.Goals as goal

pub tell-requires : goal.tell-requires
tell-requires c =
    let name = c.args.name.now in
    let session = c.args.session in
    let queues = c.args.locks.now.0 in
    let is = unlocks (has_requested session name queues) c.in-Ok.next (owner_notified name (next_owner name session queues)) (Ok c.in-Ok.next) refl c.in-Ok.ensures.answer in
    next-place name session queues c.requires.order c.args.frames.now c.requires.room c.keep_place.new.self c.push_kept.new.self c.if-not-keep_place.ensures.places c.push_kept.ensures.places
    c.in-Ok.next is.1

pub returns-then-not-was_owner-clause-room : goal.returns-then-not-was_owner-clause-room
returns-then-not-was_owner-clause-room c =
    let name = c.args.name.now in
    let session = c.args.session in
    let queues = c.args.locks.now.0 in
    let is = unlocks (has_requested session name queues) c.in-Ok.next (owner_notified name (next_owner name session queues)) (Ok c.in-Ok.next) refl c.in-Ok.ensures.answer in
    waiter-room name session queues c.requires.order c.args.frames.now c.requires.room c.keep_place.new.self c.push_kept.new.self c.if-not-keep_place.ensures.places c.push_kept.ensures.places
    c.in-Ok.next is.1 c.tell.new.frames c.tell.ensures.places c.unlock.new.self.0 (ap (λ (t : TableValue). t.0) c.in-Ok.ensures.ok)
    is.0 (sym c.owns-was_owner.ensures ∙ c.if-not-was_owner.true) c.give_up_place.new.self c.give_up_place.ensures.places

pub returns-else-not-was_owner-clause-room : goal.returns-else-not-was_owner-clause-room
returns-else-not-was_owner-clause-room c =
    let name = c.args.name.now in
    let session = c.args.session in
    let queues = c.args.locks.now.0 in
    let is = unlocks (has_requested session name queues) c.in-Ok.next (owner_notified name (next_owner name session queues)) (Ok c.in-Ok.next) refl c.in-Ok.ensures.answer in
    unlock-room name session queues c.requires.order c.args.frames.now c.requires.room c.keep_place.new.self c.push_kept.new.self c.if-not-keep_place.ensures.places c.push_kept.ensures.places
    c.in-Ok.next is.1 c.tell.new.frames c.tell.ensures.places c.unlock.new.self.0 (ap (λ (t : TableValue). t.0) c.in-Ok.ensures.ok)

pub returns-else-not-was_owner-clause-asked : goal.returns-else-not-was_owner-clause-asked
returns-else-not-was_owner-clause-asked c =
    let name = c.args.name.now in
    let session = c.args.session in
    let queues = c.args.locks.now.0 in
    let is = unlocks (has_requested session name queues) c.in-Ok.next (owner_notified name (next_owner name session queues)) (Ok c.in-Ok.next) refl c.in-Ok.ensures.answer in
    record {
      goes = rw is.0;
      queues = ap (λ (t : TableValue). t.0) c.in-Ok.ensures.ok;
      sends = unlock-sends session c.args.id.now name queues c.in_ok-reply.reply c.in-Ok.next c.args.frames.now c.keep_place.new.self c.push_kept.new.self c.tell.new.frames
          c.in_ok-reply.ensures is.1 c.keep_place.ensures.frames c.push_kept.ensures.frames c.tell.ensures.posts;
    }
