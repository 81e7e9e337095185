use Rattle.ov_streams.proofs.Entering.{took}
use Rattle.ov_streams.proofs.feed.enter_one.Goals as goal

pub returns-clause-enters : goal.returns-clause-enters
returns-clause-enters g c = took _ _ _ c.args.message _ _ c.step.result c.requires c.step.ensures.steps
