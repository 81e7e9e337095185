use Rattle.std.proofs.Common.{subst}
use Rattle.ov_stage.specs.Staging.{Differs, Stage}
use Rattle.ov_stage.proofs.stage.Stage.changes.Goals as goal

pub returns-clause-differs : goal.returns-clause-differs
returns-clause-differs c = subst (λ (s : Stage). Differs c.self.inside.delta s.before) c.self.view_is c.self.invariant.0
