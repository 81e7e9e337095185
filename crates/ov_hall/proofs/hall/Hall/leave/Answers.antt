use Rattle.std.proofs.Common.{rules, List, Option, refl, sym, subst, ◌∙◌, None, slice_set}
use Rattle.ov_lanes.specs.Lanes.{PlacesGoOn}
use Rattle.ov_lanes.specs.declared.lane.Lane.{Lane}
use Rattle.ov_hall.specs.Guests.{StayOrLeave, WereThere}
use Rattle.ov_workers.specs.LinkStates.{ends_of}
use Rattle.ov_hall.specs.Seats.{ArePlaces}
use Rattle.ov_hall.specs.Serving.{IsTended}
use Rattle.ov_hall.proofs.Guests.{leaves_at, leaves_free, there_freed}
use Rattle.ov_hall.proofs.Halls.{goes_left}
use Rattle.ov_hall.proofs.Seats.{seats_set, seated_at, seated_works}
use Rattle.ov_hall.proofs.hall.Hall.leave.Goals as goal

pub unreachable-requires : goal.unreachable-requires
unreachable-requires g c =
    let was = c.args.self.now in
    seated_works was.keeps was.desk.lanes.items was.workers.items c.args.at c.in-Some.lane (sym c.take_out-place.ensures.0 ∙ c.in-Some.is) (sym c.take_out-seat.ensures.0 ∙ c.in_default-seat.is) c.requires.seats

pub join_workers-left-requires-clause-workers : goal.join_workers-left-requires-clause-workers
join_workers-left-requires-clause-workers g c =
    let was = c.args.self.now in
    (was.keeps, (seated_at was.keeps was.desk.lanes.items was.workers.items c.args.at c.in-Some.lane c.in-Some-seat.workers (sym c.take_out-place.ensures.0 ∙ c.in-Some.is) (sym c.take_out-seat.ensures.0 ∙ c.in-Some-seat.is) c.requires.seats).0)

pub join_workers-left-requires-clause-link : goal.join_workers-left-requires-clause-link
join_workers-left-requires-clause-link g c =
    let was = c.args.self.now in
    (seated_at was.keeps was.desk.lanes.items was.workers.items c.args.at c.in-Some.lane c.in-Some-seat.workers (sym c.take_out-place.ensures.0 ∙ c.in-Some.is) (sym c.take_out-seat.ensures.0 ∙ c.in-Some-seat.is) c.requires.seats).1

pub join_workers-left-requires-clause-over : goal.join_workers-left-requires-clause-over
join_workers-left-requires-clause-over g c = c.requires.over c.in-Some.lane (sym c.take_out-place.ensures.0 ∙ c.in-Some.is)

pub returns-in_default-clause-leaves : goal.returns-in_default-clause-leaves
returns-in_default-clause-leaves g c =
    let was = c.args.self.now in let core = was.desk.core in let ls = was.desk.lanes.items in let ws = was.workers.items in let ends = ends_of g.S.Source g.W.Sink in
    record {
      core = refl;
      many = search rules;
      goes = λ moment. subst (λ (l : List (Option Lane)). PlacesGoOn moment core ls core l) (sym c.take_out-place.ensures.1) (goes_left moment ls c.args.at (search rules) (λ l is. (c.requires.over l is).0));
      leaves = subst (λ (l : List (Option Lane)). StayOrLeave IsTended ends ls ws l c.take_out-seat.new.places.items) (sym c.take_out-place.ensures.1)
          (subst (λ v. StayOrLeave IsTended ends ls ws (slice_set ls c.args.at None) v) (sym c.take_out-seat.ensures.1) (leaves_free ends ls ws c.args.at (sym c.take_out-place.ensures.0 ∙ c.in_default.is)));
      there = subst (λ (l : List (Option Lane)). WereThere IsTended ls l) (sym c.take_out-place.ensures.1) (there_freed ls c.args.at (search rules));
      same = (refl, refl);
      seats = subst (λ l. ArePlaces was.keeps l c.take_out-seat.new.places.items) (sym c.take_out-place.ensures.1)
          (subst (λ v. ArePlaces was.keeps (slice_set ls c.args.at None) v) (sym c.take_out-seat.ensures.1) (seats_set was.keeps ls was.workers.items c.args.at None None (search rules) refl c.requires.seats));
    }

pub returns-clause-leaves : goal.returns-clause-leaves
returns-clause-leaves g c =
    let was = c.args.self.now in let core = was.desk.core in let ls = was.desk.lanes.items in let ws = was.workers.items in let ends = ends_of g.S.Source g.W.Sink in
    let lane = c.in-Some.lane in let left = c.join_workers-left.result in
    let is = sym c.take_out-place.ensures.0 ∙ c.in-Some.is in let works = sym c.take_out-seat.ensures.0 ∙ c.in-Some-seat.is in
    let seat = seated_at was.keeps ls ws c.args.at lane c.in-Some-seat.workers is works c.requires.seats in
    record {
      core = refl;
      many = search rules;
      goes = λ moment. subst (λ (l : List (Option Lane)). PlacesGoOn moment core ls core l) (sym c.take_out-place.ensures.1) (goes_left moment ls c.args.at (search rules) (λ l is. (c.requires.over l is).0));
      leaves = subst (λ (l : List (Option Lane)). StayOrLeave IsTended ends ls ws l c.take_out-seat.new.places.items) (sym c.take_out-place.ensures.1)
          (subst (λ v. StayOrLeave IsTended ends ls ws (slice_set ls c.args.at None) v) (sym c.take_out-seat.ensures.1)
          (leaves_at ends ls ws c.args.at lane c.in-Some-seat.workers seat.1.0 is works seat.1.1 (record {
            remains = record { serial = lane.session.serial; cause = left.cause; reader = left.last_reader.value; writer = left.last_writer.value };
            ended = (c.requires.over lane is).0;
            comes_to = (refl, λ course fits. c.join_workers-left.ensures.ends seat.1.0 seat.1.1 course fits);
          })));
      there = subst (λ (l : List (Option Lane)). WereThere IsTended ls l) (sym c.take_out-place.ensures.1) (there_freed ls c.args.at (search rules));
      same = (refl, refl);
      seats = subst (λ l. ArePlaces was.keeps l c.take_out-seat.new.places.items) (sym c.take_out-place.ensures.1)
          (subst (λ v. ArePlaces was.keeps (slice_set ls c.args.at None) v) (sym c.take_out-seat.ensures.1) (seats_set was.keeps ls was.workers.items c.args.at None None (search rules) refl c.requires.seats));
    }
