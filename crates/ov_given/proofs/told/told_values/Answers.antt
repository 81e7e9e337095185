use Rattle.std.proofs.Common.{ℕ, List, arith, ◌∙◌}
use Rattle.std.proofs.lemmas.Grind.{common_steps}
use Rattle.std.specs.FinMap.{get}
use Rattle.std.specs.Prelude.{Result}
use Rattle.serde_json.specs.Data.{Data}
use Rattle.serde_json.specs.View.{members_view}
use Rattle.ov_specs.specs.operations.Errors.{OpError}
use Rattle.ov_specs.specs.operations.Wait as wait
use Rattle.ov_specs.specs.values.Value.{Datum}
use Rattle.ov_specs.proofs.laws.RowReading.{row_read_on}
use Rattle.ov_given.proofs.told.told_values.Goals as goal

pub loop-name-init : goal.loop-name-init
loop-name-init g c =
    let names = g.N.Names.names c.args.names.now in
    let value : List ℕ → Data → Result Datum OpError = λ name d. wait.told_value names c.args.compared.now name (get c.args.table.now.columns name) d in
    row_read_on value (members_view c.args.members.now.entries) ∙ grind (arith, common_steps)
