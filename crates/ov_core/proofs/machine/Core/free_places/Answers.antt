use Rattle.std.proofs.Common.{◌-◌, ◌∙◌, ap, sym}
use Rattle.ov_sessions.specs.Sessions.{most_sessions}
use Rattle.ov_live.proofs.Watching.{length-sessions}
use Rattle.ov_core.proofs.machine.Core.free_places.Goals as goal

pub returns : goal.returns
returns g c =
    let live = c.self.inside.live in
    rw (← c.self.view_is) (c.free_places.ensures ∙ sym (ap (λ n. most_sessions - n) (length-sessions live.watchers live.sessions.open_sessions)))
