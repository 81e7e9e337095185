use Rattle.std.proofs.Common.{rules, Some, false, refl}
use Rattle.ov_lanes.specs.Lanes.{SameLane, LooksAt}
use Rattle.ov_lanes.proofs.PlaceLaws.{goes_at, moves_some, moves_none}
use Rattle.ov_lanes.proofs.Turning.{some_stays, none_stays, stay_same_set, place_taken, taken_at}
use Rattle.ov_lanes.proofs.desk.Desk.take_at.Goals as goal

pub returns-in-Some-clause-goes : goal.returns-in-Some-clause-goes
returns-in-Some-clause-goes g c =
    let place = c.index_mut.result.now in
    goes_at c.args.moment c.args.self.now.lanes.items c.args.at place (Some c.take.new.lane) (search rules) c.index_mut.ensures.value
    (λ first since f. moves_some c.args.moment place c.in-Some.lane c.take.new.lane c.in-Some.is c.take.ensures.rings.2 since (λ fits. c.take.ensures.moves first since fits) f)

pub returns-in-Some-clause-rings : goal.returns-in-Some-clause-rings
returns-in-Some-clause-rings g c =
    let place = c.index_mut.result.now in
    stay_same_set c.args.self.now.lanes.items c.args.at place (Some c.take.new.lane) (search rules) c.index_mut.ensures.value (some_stays SameLane place c.in-Some.lane c.take.new.lane c.in-Some.is c.take.ensures.rings)

pub returns-in-Some-clause-taken : goal.returns-in-Some-clause-taken
returns-in-Some-clause-taken g c =
    let a = c.args.self.now.core in let b = c.take.new.core in let place = c.index_mut.result.now in
    taken_at c.args.self.now.lanes.items c.args.at place (Some c.take.new.lane) (search rules) c.index_mut.ensures.value c.take.result a b
    (place_taken c.take.result a b place c.in-Some.lane c.take.new.lane c.in-Some.is c.take.ensures.taken)

pub returns-in-None-clause-goes : goal.returns-in-None-clause-goes
returns-in-None-clause-goes g c =
    let place = c.index_mut.result.now in
    goes_at c.args.moment c.args.self.now.lanes.items c.args.at place place (search rules) c.index_mut.ensures.value (λ first since f. moves_none c.args.moment place c.in-None.is since)

pub returns-in-None-clause-rings : goal.returns-in-None-clause-rings
returns-in-None-clause-rings g c =
    let place = c.index_mut.result.now in
    stay_same_set c.args.self.now.lanes.items c.args.at place place (search rules) c.index_mut.ensures.value (none_stays SameLane place c.in-None.is)

pub returns-in-None-clause-taken : goal.returns-in-None-clause-taken
returns-in-None-clause-taken g c =
    let a = c.args.self.now.core in let place = c.index_mut.result.now in
    taken_at c.args.self.now.lanes.items c.args.at place place (search rules) c.index_mut.ensures.value false a a (refl, none_stays LooksAt place c.in-None.is)
