use Rattle.std.proofs.Common.{rules}
use Rattle.ov_lanes.proofs.Turning.{found_at}
use Rattle.ov_lanes.proofs.lanes.place_of.Goals as goal

pub returns-then-lane-serial : goal.returns-then-lane-serial
returns-then-lane-serial c = (search rules, found_at c.args.lanes.now.items c.loop-at.at c.args.serial c.index.result.now c.in-Some.lane (search rules) (search rules) (search rules) (search rules))
