use Rattle.std.proofs.Common.{◌≡◌, ◌∙◌, ap, max}
use Rattle.ov_core.specs.Following.{CoreState}
use Rattle.ov_core.proofs.Steps.{closed_as_asked}
use Rattle.ov_core.proofs.machine.Core.step.Goals as goal

pub returns-then-close_at-clause-steps : goal.returns-then-close_at-clause-steps
returns-then-close_at-clause-steps g c =
    let at : c.moment_of-moment.result ≡ max c.args.moment c.args.self.now.state.moment = c.moment_of-moment.ensures ∙ ap (λ (r : CoreState _ _). max c.args.moment r.state.moment) c.self.view_is in
    rw (c.in-Close.is, ← at) (closed_as_asked _ _ _ _ _ _ c.if-close_at.ensures.closes)

pub returns-then-close_at-clause-keeps : goal.returns-then-close_at-clause-keeps
returns-then-close_at-clause-keeps g c = rw c.in-Close.is (c.close_at.ensures.keeps c.if-close_at.true)
