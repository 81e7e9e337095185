use Rattle.std.proofs.Common.{rules, arith}
use Rattle.ov_lanes.proofs.Turning.{taken_more}
use Rattle.ov_lanes.proofs.lanes.free_place.Goals as goal

pub loop-at-preserved : goal.loop-at-preserved
loop-at-preserved c = taken_more c.args.lanes.now.items c.loop-at.at _ c.index.result.now (search rules) (search rules) (search rules) (omega arith) c.loop-at.invariant
