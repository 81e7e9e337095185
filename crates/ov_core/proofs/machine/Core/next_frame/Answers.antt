use Rattle.std.proofs.Common.{◌∙◌, ap, sym}
use Rattle.ov_specs.specs.locks.Queues.{has_requested}
use Rattle.ov_specs.proofs.laws.Queueing.{closed_stand_nowhere}
use Rattle.ov_core.proofs.machine.Core.next_frame.Goals as goal

pub returns-then-not-is_open-clause-forgotten : goal.returns-then-not-is_open-clause-forgotten
returns-then-not-is_open-clause-forgotten g c = λ away none.
    let h = c.self.invariant.0 in
    c.forget.ensures.gone (λ name. ap (has_requested c.args.session.serial name) c.pop-frame.ensures.queues ∙ closed_stand_nowhere h.schema h.database h.history _ h.legal c.args.session.serial name (rw (← c.self.view_is) at away)) (sym (c.forget.ensures.frames c.args.session.serial) ∙ none)
