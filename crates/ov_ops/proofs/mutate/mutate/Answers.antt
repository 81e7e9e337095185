use Rattle.std.proofs.Common.{◌≡◌, ℕ, List, length, refl, sym, ap, ◌∙◌, rules, Vec, Global}
use Rattle.std.specs.Prelude.{Option, Some, Result, Ok}
use Rattle.std.proofs.lemmas.Result.{err_from_is_err_and}
use Rattle.serde_json.specs.Data.{Data, Items}
use Rattle.serde_json.specs.View.{view, items_view}
use Rattle.ov_specs.specs.operations.Conditions.{Condition}
use Rattle.ov_specs.specs.operations.MatchingRows.{on_conditions, matching}
use Rattle.ov_specs.specs.operations.OpOutcome.{OpContext, OpOutcome}
use Rattle.ov_specs.specs.rows.Database.{Database, Columns}
use Rattle.ov_specs.specs.rows.Lines.{LineKey}
use Rattle.ov_specs.specs.schema.SchemaTypes.{Table}
use Rattle.std.proofs.Common.{codes}
use Rattle.ov_specs.specs.operations.Errors.{SyntaxError}
use Rattle.ov_specs.specs.operations.Mutate.{mutations_read, mutated_rows, mutates}
use Rattle.ov_specs.specs.operations.Mutators.{Mutation}
use Rattle.ov_specs.specs.operations.MatchingRows.{count_result, put_rows}
use Rattle.ov_specs.specs.operations.Errors.{OpError}
use Rattle.ov_specs.specs.operations.Members.{array_at}
use Rattle.ov_specs.specs.operations.OpOutcome.{Done, names_in, some_or_fault, ok_or_fault}
use Rattle.ov_ops.specs.Outcomes.{context_of}
use Rattle.ov_ops.proofs.Going.{stops, refuses}
use Rattle.ov_ops.proofs.Mutating.{mutated-length}
use Rattle.ov_ops.proofs.mutate.mutate.Goals as goal

-- from the conditions on, and from the table on
abbrev from_conditions : OpContext → Database → Data → List ℕ → Table → List Condition → OpOutcome
from_conditions t rows d name table conditions = some_or_fault (array_at (codes "mutations") d) SyntaxError (λ items. ok_or_fault (mutations_read (names_in t) table items) (λ mutations. mutates t mutations (matching rows name conditions) rows))

abbrev from_table : OpContext → Database → Data → List ℕ → Table → OpOutcome
from_table t rows d name table = on_conditions t table d (from_conditions t rows d name table)

pub returns-in_err-name-clause-done : goal.returns-in_err-name-clause-done
returns-in_err-name-clause-done g c =
    let t = context_of g.O.Owns.owned c.args.ctx.now c.args.stage.now.before in
    let rows = c.args.stage.now.now in
    let d = view c.args.operation.now in
    let p = err_from_is_err_and c.from_residual.result c.from_residual.ensures.1 in
    rw (p.1, p.2) (stops _ _ c.in_err-name.field-0.0 rows refl (c.in_err-name.ensures c.args.stage.now.before (from_table t rows d)))

pub returns-in_err-conditions-clause-done : goal.returns-in_err-conditions-clause-done
returns-in_err-conditions-clause-done g c =
    let before = c.args.stage.now.before in
    let t = context_of g.O.Owns.owned c.args.ctx.now before in
    let rows = c.args.stage.now.now in
    let d = view c.args.operation.now in
    let p = err_from_is_err_and c.from_residual-in_err-conditions.result c.from_residual-in_err-conditions.ensures.1 in
    rw (p.1, p.2) (stops _ _ c.in_err-conditions.field-0.0 rows (c.in_ok-name.ensures before (from_table t rows d)) (c.in_err-conditions.ensures before (from_conditions t rows d c.in_ok-name.name.now c.in_ok-name.table.now)))

-- after the mutations, and after the rows
abbrev from_mutations : OpContext → Database → List ℕ → List Condition → List Mutation → OpOutcome
from_mutations t rows name conditions mutations = mutates t mutations (matching rows name conditions) rows

abbrev from_rows : OpContext → Database → List ℕ → List Condition → List (LineKey × Columns) → OpOutcome
from_rows t rows name conditions changed = Done (count_result (length (matching rows name conditions))) (put_rows t changed rows)

pub returns-in_err-mutations-clause-done : goal.returns-in_err-mutations-clause-done
returns-in_err-mutations-clause-done g c =
    let before = c.args.stage.now.before in
    let t = context_of g.O.Owns.owned c.args.ctx.now before in
    let rows = c.args.stage.now.now in
    let d = view c.args.operation.now in
    let name = c.in_ok-name.name.now in
    let table = c.in_ok-name.table.now in
    let conditions = c.in_ok-conditions.conditions.items in
    let items = items_view c.as_slice.result.now in
    let found : array_at (codes "mutations") d ≡ Some items = search rules in
    let next = from_mutations t rows name conditions in
    let e = c.in_ok-name.ensures before (from_table t rows d) ∙ c.in_ok-conditions.ensures before (from_conditions t rows d name table)
    ∙ ap (λ (o : Option Items). some_or_fault o SyntaxError (λ ds. ok_or_fault (mutations_read (names_in t) table ds) next)) found in
    let p = err_from_is_err_and c.from_residual-in_err-mutations.result c.from_residual-in_err-mutations.ensures.1 in
    rw (p.1, p.2) (stops _ _ c.in_err-mutations.field-0.0 rows e (refuses (mutations_read (names_in t) table items) (λ (v : Vec Mutation Global). v.items) next c.in_err-mutations.field-0.0 c.in_err-mutations.ensures))

pub returns-in_err-changed-clause-done : goal.returns-in_err-changed-clause-done
returns-in_err-changed-clause-done g c =
    let before = c.args.stage.now.before in
    let t = context_of g.O.Owns.owned c.args.ctx.now before in
    let rows = c.args.stage.now.now in
    let d = view c.args.operation.now in
    let name = c.in_ok-name.name.now in
    let table = c.in_ok-name.table.now in
    let conditions = c.in_ok-conditions.conditions.items in
    let items = items_view c.as_slice.result.now in
    let found : array_at (codes "mutations") d ≡ Some items = search rules in
    let next = from_mutations t rows name conditions in
    let e = c.in_ok-name.ensures before (from_table t rows d) ∙ c.in_ok-conditions.ensures before (from_conditions t rows d name table)
    ∙ ap (λ (o : Option Items). some_or_fault o SyntaxError (λ ds. ok_or_fault (mutations_read (names_in t) table ds) next)) found
    ∙ ap (λ (r : Result (List Mutation) OpError). ok_or_fault r next) c.in_ok-mutations.ensures
    ∙ (λ i. ok_or_fault (mutated_rows (sym c.as_slice-3.ensures.value i) (matching rows name (sym c.as_slice-2.ensures.value i))) (from_rows t rows name conditions)) in
    let p = err_from_is_err_and c.from_residual-in_err-changed.result c.from_residual-in_err-changed.ensures.1 in
    rw (p.1, p.2) (stops _ _ c.in_err-changed.field-0.0 rows e (refuses (mutated_rows c.as_slice-3.result.now (matching rows name c.as_slice-2.result.now)) (λ (v : Vec (LineKey × Columns) Global). v.items) (from_rows t rows name conditions) c.in_err-changed.field-0.0 c.in_err-changed.ensures))

pub returns-clause-done : goal.returns-clause-done
returns-clause-done g c =
    let before = c.args.stage.now.before in
    let t = context_of g.O.Owns.owned c.args.ctx.now before in
    let rows = c.args.stage.now.now in
    let d = view c.args.operation.now in
    let name = c.in_ok-name.name.now in
    let table = c.in_ok-name.table.now in
    let conditions = c.in_ok-conditions.conditions.items in
    let items = items_view c.as_slice.result.now in
    let changed = c.in_ok-changed.changed.items in
    let found : array_at (codes "mutations") d ≡ Some items = search rules in
    let next = from_mutations t rows name conditions in
    let done : mutated_rows c.in_ok-mutations.mutations.items (matching rows name conditions) ≡ Ok changed = (λ i. mutated_rows (sym c.as_slice-3.ensures.value i) (matching rows name (sym c.as_slice-2.ensures.value i))) ∙ c.in_ok-changed.ensures in
    let many : length changed ≡ length (matching rows name conditions) = mutated-length c.in_ok-mutations.mutations.items (matching rows name conditions) changed done in
    let counted : c.in_ok-result.result ≡ count_result (length changed) = search rules in
    let put : c.put_rows.new.stage.now ≡ put_rows t changed rows = search rules in
    c.in_ok-name.ensures before (from_table t rows d) ∙ c.in_ok-conditions.ensures before (from_conditions t rows d name table)
    ∙ ap (λ (o : Option Items). some_or_fault o SyntaxError (λ ds. ok_or_fault (mutations_read (names_in t) table ds) next)) found
    ∙ ap (λ (r : Result (List Mutation) OpError). ok_or_fault r next) c.in_ok-mutations.ensures
    ∙ ap (λ (r : Result (List (LineKey × Columns)) OpError). ok_or_fault r (from_rows t rows name conditions)) done
    ∙ ap (λ n. Done (count_result n) (put_rows t changed rows)) (sym many)
    ∙ (λ i. Done (sym counted i) (sym put i))
