use Rattle.ov_lanes.proofs.Closing.{closes_nothing}
use Rattle.ov_lanes.proofs.Openings.{opens_none}
use Rattle.ov_lanes.proofs.open.shows_nothing_opened.Goals as goal

pub returns-clause-opened : goal.returns-clause-opened
returns-clause-opened g c = opens_none c.args.core.now c.history.ensures.legal

pub returns-clause-closed : goal.returns-clause-closed
returns-clause-closed g c = closes_nothing c.args.core.now c.history.ensures.legal
