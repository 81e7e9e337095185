use Rattle.ov_specs.proofs.laws.Queueing.{closed_stand_nowhere}
use Rattle.ov_core.proofs.machine.Core.take_output.Goals as goal

pub returns-clause-forgotten : goal.returns-clause-forgotten
returns-clause-forgotten g c = λ away.
    let h = c.self.invariant.0 in
    c.clear.ensures.gone (λ name. closed_stand_nowhere h.schema h.database h.history _ h.legal c.args.session.serial name (rw (← c.self.view_is) at away))
