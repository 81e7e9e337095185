use Rattle.ov_lanes.proofs.Steady.{flushes_none, flushes_along}
use Rattle.ov_lanes.proofs.desk.Desk.flush.Goals as goal

pub loop-init : goal.loop-init
loop-init g c = flushes_none g.K.Keeper.is_honest c.args.self.now

pub returns-then-not-flush_each-clause-flushes : goal.returns-then-not-flush_each-clause-flushes
returns-then-not-flush_each-clause-flushes g c = flushes_along g.K.Keeper.is_honest c.args.self.now c.loop.self c.flush_each.new.self c.loop.invariant c.flush_each.ensures.flushes

pub loop-preserved : goal.loop-preserved
loop-preserved g c = flushes_along g.K.Keeper.is_honest c.args.self.now c.loop.self c.flush_each.new.self c.loop.invariant c.flush_each.ensures.flushes
