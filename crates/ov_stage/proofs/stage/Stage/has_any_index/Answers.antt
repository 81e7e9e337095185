use Rattle.std.proofs.Common.{sym, ap, subst, ◌∙◌}
use Rattle.std.proofs.lemmas.Bool.{false≢true}
use Rattle.std.specs.FinMap.{len}
use Rattle.ov_specs.specs.rows.Database.{Database}
use Rattle.ov_specs.proofs.laws.Truths.{zero_is}
use Rattle.ov_stage.specs.Apart.{AreToldApart}
use Rattle.ov_stage.specs.Asked.{AreIndexesIf}
use Rattle.ov_stage.specs.Staging.{Stage}
use Rattle.ov_stage.proofs.Stages.{applied-none}
use Rattle.ov_stage.proofs.ToldApart.{told_by_index}
use Rattle.ov_stage.proofs.stage.Stage.has_any_index.Goals as goal

pub returns-then-is_empty : goal.returns-then-is_empty
returns-then-is_empty c told =
    let rows = c.self.inside.rows.now in
    let delta = c.self.inside.delta in
    let none = zero_is (len delta) (sym c.is_empty.ensures ∙ c.if-is_empty.true) in
    let apart = (subst (AreIndexesIf rows) c.in-Some.is c.self.invariant.1).1 in
    subst (λ (db : Database). AreToldApart db c.args.table.now c.args.names.now) (sym (applied-none delta rows none) ∙ ap (λ (s : Stage). s.now) c.self.view_is)
    (told_by_index c.in-Some.indexed.schema.now rows c.args.table.now c.args.names.now apart (sym c.has_any.ensures ∙ told))

pub returns-else-is_empty : goal.returns-else-is_empty
returns-else-is_empty c told = absurd (false≢true (sym c.if-is_empty.false ∙ told))
