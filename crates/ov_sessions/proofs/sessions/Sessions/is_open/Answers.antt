use Rattle.std.proofs.Common.{◌∙◌}
use Rattle.ov_sessions.proofs.Keying.{open_by_keys}
use Rattle.ov_sessions.proofs.sessions.Sessions.is_open.Goals as goal

pub returns : goal.returns
returns c = rw (← c.self.view_is) (c.contains_key.ensures ∙ open_by_keys c.args.serial c.self.inside.keys.entries)
