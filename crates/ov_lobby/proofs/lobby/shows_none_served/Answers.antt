use Rattle.ov_lanes.proofs.PlaceLaws.{serves_none}
use Rattle.ov_lobby.proofs.lobby.shows_none_served.Goals as goal

pub returns : goal.returns
returns g c = serves_none c.args.desk.now.core c.args.desk.now.lanes.items c.history.ensures.legal c.requires
