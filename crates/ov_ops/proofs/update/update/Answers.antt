use Rattle.std.proofs.Common.{◌≡◌, ℕ, List, Option, Some, refl, ap, ◌∙◌, rules}
use Rattle.std.proofs.lemmas.Result.{err_from_is_err_and}
use Rattle.serde_json.specs.Data.{Data, Members}
use Rattle.serde_json.specs.View.{view, members_view}
use Rattle.ov_specs.specs.operations.Conditions.{Condition}
use Rattle.ov_specs.specs.operations.MatchingRows.{on_conditions, matching}
use Rattle.ov_specs.specs.operations.OpOutcome.{OpContext, OpOutcome}
use Rattle.ov_specs.specs.rows.Database.{Database, Columns}
use Rattle.ov_specs.specs.schema.SchemaTypes.{Table}
use Rattle.std.proofs.Common.{codes}
use Rattle.ov_specs.specs.operations.Errors.{SyntaxError}
use Rattle.ov_specs.specs.operations.GivenRow.{may_be_changed, given_values}
use Rattle.ov_specs.specs.operations.Members.{object_at}
use Rattle.ov_specs.specs.operations.OpOutcome.{names_in, some_or_fault, ok_or_fault}
use Rattle.ov_specs.specs.operations.Update.{updated}
use Rattle.ov_ops.specs.Outcomes.{context_of}
use Rattle.ov_ops.proofs.Going.{stops, refuses}
use Rattle.ov_ops.proofs.update.update.Goals as goal

-- from the conditions on, and from the table on
abbrev from_conditions : OpContext → Database → Data → List ℕ → Table → List Condition → OpOutcome
from_conditions t rows d name table conditions = some_or_fault (object_at (codes "row") d) SyntaxError (λ members. ok_or_fault (given_values may_be_changed (names_in t) table members) (λ given. updated t given (matching rows name conditions) rows))

abbrev from_table : OpContext → Database → Data → List ℕ → Table → OpOutcome
from_table t rows d name table = on_conditions t table d (from_conditions t rows d name table)

pub returns-in_err-name-clause-done : goal.returns-in_err-name-clause-done
returns-in_err-name-clause-done g c =
    let t = context_of g.O.Owns.owned c.args.ctx.now c.args.stage.now.before in
    let rows = c.args.stage.now.now in
    let d = view c.args.operation.now in
    let p = err_from_is_err_and c.from_residual.result c.from_residual.ensures.1 in
    rw (p.1, p.2) (stops _ _ c.in_err-name.field-0.0 rows refl (c.in_err-name.ensures c.args.stage.now.before (from_table t rows d)))

pub returns-in_err-conditions-clause-done : goal.returns-in_err-conditions-clause-done
returns-in_err-conditions-clause-done g c =
    let before = c.args.stage.now.before in
    let t = context_of g.O.Owns.owned c.args.ctx.now before in
    let rows = c.args.stage.now.now in
    let d = view c.args.operation.now in
    let p = err_from_is_err_and c.from_residual-in_err-conditions.result c.from_residual-in_err-conditions.ensures.1 in
    rw (p.1, p.2) (stops _ _ c.in_err-conditions.field-0.0 rows (c.in_ok-name.ensures before (from_table t rows d)) (c.in_err-conditions.ensures before (from_conditions t rows d c.in_ok-name.name.now c.in_ok-name.table.now)))

-- after the given values
abbrev from_given : OpContext → Database → List ℕ → List Condition → Columns → OpOutcome
from_given t rows name conditions given = updated t given (matching rows name conditions) rows

pub returns-in_err-given-clause-done : goal.returns-in_err-given-clause-done
returns-in_err-given-clause-done g c =
    let before = c.args.stage.now.before in
    let t = context_of g.O.Owns.owned c.args.ctx.now before in
    let rows = c.args.stage.now.now in
    let d = view c.args.operation.now in
    let name = c.in_ok-name.name.now in
    let table = c.in_ok-name.table.now in
    let conditions = c.in_ok-conditions.conditions.items in
    let members = members_view c.in-Some.members.now.entries in
    let found : object_at (codes "row") d ≡ Some members = search rules in
    let next = from_given t rows name conditions in
    let e = c.in_ok-name.ensures before (from_table t rows d) ∙ c.in_ok-conditions.ensures before (from_conditions t rows d name table)
    ∙ ap (λ (o : Option Members). some_or_fault o SyntaxError (λ ms. ok_or_fault (given_values may_be_changed (names_in t) table ms) next)) found in
    let p = err_from_is_err_and c.from_residual-in_err-given.result c.from_residual-in_err-given.ensures.1 in
    rw (p.1, p.2) (stops _ _ c.in_err-given.field-0.0 rows e (refuses (given_values may_be_changed (names_in t) table members) (λ (v : Columns). v) next c.in_err-given.field-0.0 c.in_err-given.ensures))
