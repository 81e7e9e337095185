use Rattle.std.proofs.Common.{ap, ◌∙◌}
use Rattle.ov_specs.specs.operations.Conditions.{Condition, compares}
use Rattle.ov_specs.specs.rows.Database.{one_uuid}
use Rattle.ov_conds.proofs.CompareLemmas.{elements_of-one_uuid}
use Rattle.ov_conds.proofs.condition.Condition.holds_of_uuid.Goals as goal

pub returns : goal.returns
returns c =
    c.compares.ensures (one_uuid c.args.id) c.self.inside.value (elements_of-one_uuid c.args.id) c.of-value.ensures
    ∙ ap (λ (condition : Condition). compares condition.function (one_uuid c.args.id) condition.value) c.self.view_is
