use Rattle.std.proofs.Common.{ℕ, List, ap, sym, subst, ◌∙◌}
use Rattle.ov_outbox.specs.Frames.{TakesPlaces, PostsAll}
use Rattle.ov_outbox.proofs.Releasing.{HavePlaces}
use Rattle.ov_outbox.proofs.Rooms.{freed-places, leave-room, leaving-posts, TableValue, left}
use Rattle.ov_outbox.proofs.locking.leave.Goals as goal

pub tell_freed-requires : goal.tell_freed-requires
tell_freed-requires c =
    let session = c.args.session in
    let table = c.args.locks.now in
    subst (λ (fs : List (ℕ × List ℕ)). HavePlaces fs c.args.frames.now) (sym (left session table c.leave_all.new.self c.leave_all.ensures c.requires.freed)) (freed-places session table.0 c.shows_order.ensures c.args.frames.now c.requires.room)

pub returns-clause-posts : goal.returns-clause-posts
returns-clause-posts c =
    let session = c.args.session in
    let table = c.args.locks.now in
    leaving-posts session table.0 c.args.frames.now c.tell_freed.new.frames c.give_up_places.new.self
    (subst (λ (fs : List (ℕ × List ℕ)). PostsAll fs c.args.frames.now c.tell_freed.new.frames) (left session table c.leave_all.new.self c.leave_all.ensures c.requires.freed) c.tell_freed.ensures.posts)
    c.give_up_places.ensures.frames

pub returns-clause-room : goal.returns-clause-room
returns-clause-room c =
    let session = c.args.session in
    let table = c.args.locks.now in
    let places =
    subst (λ (fs : List (ℕ × List ℕ)). TakesPlaces fs c.args.frames.now c.tell_freed.new.frames) (left session table c.leave_all.new.self c.leave_all.ensures c.requires.freed) c.tell_freed.ensures.places in
    rw (c.tell_freed.ensures.queues ∙ ap (λ (t : TableValue). t.0) c.leave_all.ensures)
    (leave-room session table.0 c.shows_order.ensures c.args.frames.now c.requires.room c.tell_freed.new.frames places c.give_up_places.new.self c.give_up_places.ensures.places)
