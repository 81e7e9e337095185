use Rattle.std.proofs.Common.{rules}
use Rattle.serde_json.specs.View.{view}
use Rattle.ov_specs.specs.operations.Conditions.{Condition}
use Rattle.ov_conds.specs.Views.{function_view}
use Rattle.ov_specs.proofs.laws.OfColumns.{condition_read_suits}
use Rattle.ov_conds.proofs.condition.Condition.read.Goals as goal

pub returns-clause-suits : goal.returns-clause-suits
returns-clause-suits g c are =
    let read : Condition = record { column = c.in_ok-from_str.field-0; function = function_view c.in-Some-on.function; value = c.in_ok-value.value } in
    condition_read_suits (g.N.Names.names c.args.names.now) are c.args.table.now (view c.args.tree.now) read (search rules)
