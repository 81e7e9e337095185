use Rattle.ov_live.proofs.Takings.{tick_settles}
use Rattle.ov_live.proofs.live.Live.tick.Goals as goal

pub returns-clause-comes_to : goal.returns-clause-comes_to
returns-clause-comes_to g c = tick_settles g.K.Keeper.failed c.args.moment c.args.self.now c.settle.new.self c.args.attempts.now.items c.settle.new.attempts.items c.requires.none c.settle.ensures.settles
