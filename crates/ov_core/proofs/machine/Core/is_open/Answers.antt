use Rattle.std.proofs.Common.{◌∙◌, sym}
use Rattle.ov_live.proofs.Watching.{any-serial}
use Rattle.ov_core.proofs.machine.Core.is_open.Goals as goal

pub returns : goal.returns
returns g c =
    let live = c.self.inside.live in
    rw (← c.self.view_is) (c.is_open.ensures ∙ sym (any-serial live.watchers c.args.session.serial live.sessions.open_sessions))
