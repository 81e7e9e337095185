use Rattle.ov_streams.proofs.Entering.{shuts}
use Rattle.ov_streams.proofs.feed.close_at.Goals as goal

pub returns-clause-closes : goal.returns-clause-closes
returns-clause-closes g c = shuts _ _ _ _ _ _ c.step.result c.requires c.step.ensures.steps
