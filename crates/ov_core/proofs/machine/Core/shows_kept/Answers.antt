use Rattle.ov_core.proofs.machine.Core.shows_kept.Goals as goal

pub returns : goal.returns
returns g c = rw (← c.self.view_is) c.shows_kept.ensures
