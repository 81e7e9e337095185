use Rattle.std.proofs.Common.{rules, refl, None, Some}
use Rattle.std.proofs.lemmas.Grind.{get_or-set_at}
use Rattle.ov_lanes.proofs.Turning.{some_stays, none_stays}
use Rattle.ov_hall.specs.Serving.{IsTended}
use Rattle.ov_hall.proofs.Running.{stay_tended_set}
use Rattle.ov_hall.proofs.hall.tend_lane_at.Goals as goal

pub returns-in-Some-clause-tended : goal.returns-in-Some-clause-tended
returns-in-Some-clause-tended g c =
    stay_tended_set c.args.lanes.now.items c.args.at c.index_mut.result.now (Some c.tend_lane.new.lane) (search rules) c.index_mut.ensures.value
    (some_stays IsTended c.index_mut.result.now c.in-Some.lane c.tend_lane.new.lane c.in-Some.is c.tend_lane.ensures.tended)

pub returns-in-Some-clause-over : goal.returns-in-Some-clause-over
returns-in-Some-clause-over g c left =
    let x = c.tend_lane.ensures.over left in
    (c.tend_lane.new.lane, get_or-set_at c.args.lanes.now.items c.args.at c.args.at (Some c.tend_lane.new.lane) None refl (search rules), x.0, x.1)

pub returns-in-None-clause-tended : goal.returns-in-None-clause-tended
returns-in-None-clause-tended g c =
    let place = c.index_mut.result.now in
    stay_tended_set c.args.lanes.now.items c.args.at place place (search rules) c.index_mut.ensures.value (none_stays IsTended place c.in-None.is)
