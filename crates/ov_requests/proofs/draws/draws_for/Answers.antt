use Rattle.std.proofs.Common.{◌∙◌, arith}
use Rattle.ov_requests.proofs.Drawing.{draws_last}
use Rattle.ov_requests.proofs.draws.draws_for.Goals as goal

pub loop-made-preserved : goal.loop-made-preserved
loop-made-preserved g c = record {
  drawn = rw c.push_reserved.ensures.items (draws_last g.D.Draws.draws _ c.loop-made.draws.items c.loop-made.source c.draw.result c.draw.new.self c.loop-made.invariant.drawn c.draw.ensures);
  made = omega arith;
  room = c.push_reserved.ensures.capacity ∙ c.loop-made.invariant.room;
}
