use Rattle.std.proofs.Common.{ap, ◌∙◌, rules}
use Rattle.std.specs.FinMap.{get}
use Rattle.ov_stage.specs.Staging.{Stage}
use Rattle.ov_stage.proofs.Stages.{row_changed, row_unchanged}
use Rattle.ov_stage.proofs.stage.Stage.row.Goals as goal

pub returns-in-Some : goal.returns-in-Some
returns-in-Some c =
    c.as_ref.ensures.value ∙ row_changed c.self.inside.delta c.self.inside.rows.now c.args.key.now c.in-Some.change.now (search rules)
    ∙ ap (λ (s : Stage). get s.now c.args.key.now) c.self.view_is

pub returns-in-None : goal.returns-in-None
returns-in-None c =
    c.row.ensures ∙ (λ i. get c.self.inside.rows.now (c.table.ensures i, c.id.ensures i)) ∙ row_unchanged c.self.inside.delta c.self.inside.rows.now c.args.key.now (search rules)
    ∙ ap (λ (s : Stage). get s.now c.args.key.now) c.self.view_is
