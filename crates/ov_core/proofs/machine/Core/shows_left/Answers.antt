use Rattle.ov_live.specs.States.{machine_state}
use Rattle.ov_core.proofs.Leaving.{its_own}
use Rattle.ov_core.proofs.machine.Core.shows_left.Goals as goal

pub returns-clause-own : goal.returns-clause-own
returns-clause-own g c =
    rw (← c.self.view_is) (λ honest held found. its_own (machine_state c.self.inside.live c.self.inside.moment) held (c.shows_left.ensures.held honest held found))

pub returns-clause-format : goal.returns-clause-format
returns-clause-format g c = rw (← c.self.view_is) c.shows_left.ensures.format
