use Rattle.std.proofs.Common.{ap, subst, ◌∙◌}
use Rattle.ov_specs.specs.rows.Database.{same_database}
use Rattle.ov_stage.specs.Staging.{Differs, Stage}
use Rattle.ov_stage.proofs.Stages.{least}
use Rattle.ov_stage.proofs.stage.Stage.into_delta.Goals as goal

pub returns-clause-least : goal.returns-clause-least
returns-clause-least c = least c.self.inside.delta c.self.inside.rows.now c.self.invariant.0 ∙ ap (λ (s : Stage). same_database s.before s.now) c.self.view_is

pub returns-clause-differs : goal.returns-clause-differs
returns-clause-differs c = subst (λ (s : Stage). Differs c.self.inside.delta s.before) c.self.view_is c.self.invariant.0
