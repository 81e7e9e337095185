use Rattle.std.proofs.Common.{rules, ◌≡◌, true, refl, subst, sym, ◌∙◌}
use Rattle.std.proofs.lemmas.Option.{same_Some}
use Rattle.ov_lanes.specs.declared.lane.Lane.{Lane}
use Rattle.ov_lanes.proofs.PlaceLaws.{goes_along, goes_looked}
use Rattle.ov_workers.specs.LinkStates.{ends_of}
use Rattle.ov_hall.proofs.Guests.{leaves_tended, leaves_along, there_tended, there_along}
use Rattle.ov_hall.proofs.Halls.{tends_none}
use Rattle.ov_hall.proofs.Running.{tended_all, looks_tended, tended_same_all}
use Rattle.ov_hall.proofs.Seats.{seats_stay}
use Rattle.ov_hall.proofs.hall.Hall.tend_at.Goals as goal

pub returns-in_default-clause-tends : goal.returns-in_default-clause-tends
returns-in_default-clause-tends g c = tends_none (ends_of g.S.Source g.W.Sink) c.args.self.now c.requires.seats

pub returns-in_default-clause-kept : goal.returns-in_default-clause-kept
returns-in_default-clause-kept g c keeps = (tended_all c.args.self.now.desk.lanes.items, refl)

pub leave-requires-clause-place : goal.leave-requires-clause-place
leave-requires-clause-place g c = let many = c.tend_lane_at-has_left.ensures.tended.many in search rules

pub leave-requires-clause-over : goal.leave-requires-clause-over
leave-requires-clause-over g c lane is =
    let x = c.tend_lane_at-has_left.ensures.over c.if-has_left.true in
    let same : x.0 ≡ lane = same_Some x.0 lane (sym x.1 ∙ is) in
    subst (λ (l : Lane). (l.ended ≡ true) × (l.marked ≡ true)) same (x.2, x.3)

pub leave-requires-clause-seats : goal.leave-requires-clause-seats
leave-requires-clause-seats g c =
    let ls = c.args.self.now.desk.lanes.items in let ms = c.tend_lane_at-has_left.new.lanes.items in
    seats_stay c.args.self.now.keeps ls ms c.args.self.now.workers.items (tended_same_all ls ms c.tend_lane_at-has_left.ensures.tended) c.requires.seats

pub returns-then-not-self-clause-tends : goal.returns-then-not-self-clause-tends
returns-then-not-self-clause-tends g c =
    let ls = c.args.self.now.desk.lanes.items in let ms = c.tend_lane_at-has_left.new.lanes.items in let ns = c.leave.new.self.desk.lanes.items in
    let ends = ends_of g.S.Source g.W.Sink in let tended = c.tend_lane_at-has_left.ensures.tended in let left = c.leave.ensures.leaves in
    let ws = c.args.self.now.workers.items in
    record {
      core = left.core;
      many = (let many = left.many in let many' = tended.many in search rules);
      goes = λ moment. goes_along moment ls ms ns (goes_looked moment ls ms (looks_tended ls ms tended)) (left.goes moment);
      leaves = leaves_along ends ls ms ns ws ws c.leave.new.self.workers.items (leaves_tended ends ls ms ws tended) left.leaves;
      there = there_along ls ms ns (there_tended ls ms tended) left.there;
      same = left.same;
      seats = left.seats;
    }

pub returns-else-has_left-clause-tends : goal.returns-else-has_left-clause-tends
returns-else-has_left-clause-tends g c =
    let ls = c.args.self.now.desk.lanes.items in let ms = c.tend_lane_at-has_left.new.lanes.items in let tended = c.tend_lane_at-has_left.ensures.tended in
    record {
      core = refl;
      many = (let many = tended.many in search rules);
      goes = λ moment. goes_looked moment ls ms (looks_tended ls ms tended);
      leaves = leaves_tended (ends_of g.S.Source g.W.Sink) ls ms c.args.self.now.workers.items tended;
      there = there_tended ls ms tended;
      same = (refl, refl);
      seats = seats_stay c.args.self.now.keeps ls ms c.args.self.now.workers.items (tended_same_all ls ms tended) c.requires.seats;
    }
