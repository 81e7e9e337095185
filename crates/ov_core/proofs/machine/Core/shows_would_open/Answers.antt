use Rattle.ov_core.proofs.machine.Core.shows_would_open.Goals as goal

pub returns : goal.returns
returns g c = rw (← c.self.view_is) c.shows_left.ensures.found
