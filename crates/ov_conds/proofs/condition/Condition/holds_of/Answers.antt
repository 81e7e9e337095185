use Rattle.std.proofs.Common.{ap, ◌∙◌}
use Rattle.ov_specs.specs.operations.Conditions.{Condition, compares}
use Rattle.ov_conds.proofs.condition.Condition.holds_of.Goals as goal

pub returns : goal.returns
returns c =
    c.compares.ensures c.args.datum.now c.self.inside.value c.of.ensures c.of-value.ensures
    ∙ ap (λ (condition : Condition). compares condition.function c.args.datum.now condition.value) c.self.view_is
