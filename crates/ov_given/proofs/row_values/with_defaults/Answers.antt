use Rattle.std.proofs.Common.{arith, ◌∙◌}
use Rattle.std.proofs.lemmas.Grind.{common_steps}
use Rattle.ov_specs.proofs.laws.RowReading.{with_defaults_on}
use Rattle.ov_given.proofs.row_values.with_defaults.Goals as goal

pub loop-name-init : goal.loop-name-init
loop-name-init c = with_defaults_on c.args.table.now c.args.values ∙ grind (arith, common_steps)
