use Rattle.std.proofs.Common.{rules, refl, ap, ◌∙◌}
use Rattle.ov_lanes.proofs.PlaceLaws.{goes_unchanged}
use Rattle.ov_lanes.proofs.Seating.{goes_seated}
use Rattle.ov_core.specs.Following.{CoreState}
use Rattle.ov_hall.proofs.Halls.{opened_there, admitted_goes}
use Rattle.ov_hall.proofs.Seats.{started_works, started_new}
use Rattle.ov_specs.specs.machine.Machine.{is_open}
use Rattle.ov_hall.proofs.admit.admit_at.Goals as goal

pub seat-requires-clause-workers : goal.seat-requires-clause-workers
seat-requires-clause-workers g c =
    started_works c.args.hall.now.keeps c.args.hall.now.desk.core.state.next c.args.started c.new-lane.result c.hand.new.self c.requires.started c.new-lane.ensures.rings.0 c.new-lane.ensures.rings.1
    (ap (λ s. s.serial) c.new-lane.ensures.session ∙ c.in-Ok.ensures.opened.tells.1) c.hand.ensures.promises.0 c.hand.ensures.promises.1

pub seat-requires-clause-link : goal.seat-requires-clause-link
seat-requires-clause-link g c = (c.args.link, c.hand.ensures.handed)

pub returns-in-Ok-clause-goes : goal.returns-in-Ok-clause-goes
returns-in-Ok-clause-goes g c moment =
    let ls = c.args.hall.now.desk.lanes.items in
    let serial = ap (λ s. s.serial) c.new-lane.ensures.session ∙ c.in-Ok.ensures.opened.tells.1 in
    let new = started_new c.args.hall.now.keeps c.args.hall.now.desk.core.state.next c.args.started c.new-lane.result c.hand.new.self c.requires.started c.new-lane.ensures.rings.0 c.new-lane.ensures.rings.1 serial c.hand.ensures.promises.0 c.hand.ensures.promises.1 c.new-lane.ensures.nothing in
    admitted_goes moment ls c.seat.new.self.desk.lanes.items c.args.at c.new-lane.result c.seat.ensures.same.0 c.seat.ensures.lanes
    (goes_seated moment ls c.args.at c.new-lane.result (search rules) c.requires.place.1 g.D.Draws.draws c.in-Ok.session c.in-Ok.ensures.opened
    (record { session = ap (λ s. s.serial) c.new-lane.ensures.session; cause = new.cause; taken = new.taken; puts = new.puts; is_marked = new.is_marked; is_ended = new.is_ended }))

pub returns-in-Ok-clause-answer : goal.returns-in-Ok-clause-answer
returns-in-Ok-clause-answer g c bells parts =
    let there = opened_there g.D.Draws.draws _ c.in-Ok.session c.in-Ok.ensures.opened in
    record {
      opened = ap (λ k. is_open k.state c.args.hall.now.desk.core.state.next) c.seat.ensures.same.0 ∙ there.0;
      next = ap (λ (k : CoreState _ _). k.state.next) c.seat.ensures.same.0 ∙ there.1;
      place = record {
        at = c.args.at;
        lane = c.new-lane.result;
        works = c.hand.new.self;
        within = (let many = c.requires.seats.many in (search rules, search rules));
        free = c.requires.place.1;
        lanes = c.seat.ensures.lanes;
        workers = c.seat.ensures.workers;
        session = ap (λ s. s.serial) c.new-lane.ensures.session ∙ c.in-Ok.ensures.opened.tells.1;
        handed = c.hand.ensures.handed;
      };
    }

pub returns-in-Err-clause-goes : goal.returns-in-Err-clause-goes
returns-in-Err-clause-goes g c moment = goes_unchanged moment c.args.hall.now.desk.lanes.items c.in-Err.ensures.refused.0

pub returns-in-Err-clause-answer : goal.returns-in-Err-clause-answer
returns-in-Err-clause-answer g c bells parts = (c.in-Err.ensures.refused.1, (c.in-Err.ensures.refused.0, refl, refl))
