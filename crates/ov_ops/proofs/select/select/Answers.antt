use Rattle.std.proofs.Common.{ℕ, List, refl}
use Rattle.std.proofs.lemmas.Result.{err_from_is_err_and}
use Rattle.serde_json.specs.Data.{Data}
use Rattle.serde_json.specs.View.{view}
use Rattle.ov_specs.specs.operations.Conditions.{Condition}
use Rattle.ov_specs.specs.operations.MatchingRows.{on_conditions, matching}
use Rattle.ov_specs.specs.operations.OpOutcome.{OpContext, OpOutcome}
use Rattle.ov_specs.specs.rows.Database.{Database}
use Rattle.ov_specs.specs.schema.SchemaTypes.{Table}
use Rattle.std.proofs.Common.{map, codes}
use Rattle.serde_json.specs.Find as find
use Rattle.ov_specs.specs.operations.Select.{projection, without_repeats, select_result, selected_columns}
use Rattle.ov_specs.specs.operations.OpOutcome.{Done, ok_or_fault}
use Rattle.ov_ops.specs.Outcomes.{context_of}
use Rattle.ov_ops.proofs.Going.{stops}
use Rattle.ov_ops.proofs.select.select.Goals as goal

-- from the conditions on, and from the table on
abbrev from_conditions : OpContext → Database → Data → List ℕ → Table → List Condition → OpOutcome
from_conditions t rows d name table conditions = ok_or_fault (selected_columns table (find.get (codes "columns") d)) (λ names. Done (select_result (without_repeats (map (projection names) (matching rows name conditions)))) rows)

abbrev from_table : OpContext → Database → Data → List ℕ → Table → OpOutcome
from_table t rows d name table = on_conditions t table d (from_conditions t rows d name table)

pub returns-in_err-name : goal.returns-in_err-name
returns-in_err-name g c =
    let t = context_of g.O.Owns.owned c.args.ctx.now c.args.stage.now.before in
    let rows = c.args.stage.now.now in
    let d = view c.args.operation.now in
    let p = err_from_is_err_and c.from_residual.result c.from_residual.ensures.1 in
    rw (p.1, p.2) (stops _ _ c.in_err-name.field-0.0 rows refl (c.in_err-name.ensures c.args.stage.now.before (from_table t rows d)))

pub returns-in_err-conditions : goal.returns-in_err-conditions
returns-in_err-conditions g c =
    let before = c.args.stage.now.before in
    let t = context_of g.O.Owns.owned c.args.ctx.now before in
    let rows = c.args.stage.now.now in
    let d = view c.args.operation.now in
    let p = err_from_is_err_and c.from_residual-in_err-conditions.result c.from_residual-in_err-conditions.ensures.1 in
    rw (p.1, p.2) (stops _ _ c.in_err-conditions.field-0.0 rows (c.in_ok-name.ensures before (from_table t rows d)) (c.in_err-conditions.ensures before (from_conditions t rows d c.in_ok-name.name.now c.in_ok-name.table.now)))
