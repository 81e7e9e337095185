use Rattle.std.proofs.Common.{ap, ◌∙◌, rules}
use Rattle.std.specs.FinMap.{contains_key}
use Rattle.ov_stage.specs.Staging.{Stage}
use Rattle.ov_stage.proofs.Stages.{changed_here, unchanged_here}
use Rattle.ov_stage.proofs.stage.Stage.contains.Goals as goal

pub returns-in-Some : goal.returns-in-Some
returns-in-Some c =
    c.is_some.ensures ∙ changed_here c.self.inside.delta c.self.inside.rows.now c.args.key.now c.in-Some.change.now (search rules)
    ∙ ap (λ (s : Stage). contains_key s.now c.args.key.now) c.self.view_is

pub returns-in-None : goal.returns-in-None
returns-in-None c =
    c.contains.ensures ∙ unchanged_here c.self.inside.delta c.self.inside.rows.now c.args.key.now (search rules)
    ∙ ap (λ (s : Stage). contains_key s.now c.args.key.now) c.self.view_is
