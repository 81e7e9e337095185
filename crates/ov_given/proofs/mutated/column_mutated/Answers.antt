use Rattle.std.proofs.Common.{◌≡◌, rules, Some, None, Ok, Err, sym, ap, ◌∙◌}
use Rattle.std.proofs.lemmas.Result.{err_from_is_err_and}
use Rattle.std.specs.FinMap.{get, insert}
use Rattle.ov_specs.specs.operations.Mutate.{mutated_value, column_mutated}
use Rattle.ov_specs.specs.operations.Mutators.{Mutation}
use Rattle.ov_specs.specs.rows.Database.{Columns}
use Rattle.ov_specs.specs.values.Value.{Datum}
use Rattle.ov_specs.proofs.laws.Mutating.{mutated-none, mutated-value, mutated-fault}
use Rattle.ov_projection.specs.Errors.{error_view, IsOpResult}
use Rattle.ov_projection.specs.declared.fault.OpFault.{OpFault}
use Rattle.ov_projection.specs.declared.fault.OpFault.TheVariants.{Refused, Memory}
use Rattle.ov_given.proofs.mutated.column_mutated.Goals as goal

-- the fault of the value is that of the row
fault_of_row : (m : Mutation) (columns : Columns) (old : Datum) (fault : OpFault) → get columns m.column ≡ Some old → IsOpResult (λ (d : Datum). d) (mutated_value m old) (Err fault)
    → IsOpResult (λ (c : Columns). c) (column_mutated m columns) (Err fault)
fault_of_row m columns old (Refused error) found is = mutated-fault m columns old (error_view error) found is
fault_of_row m columns old Memory found is = tt

pub returns-in_default : goal.returns-in_default
returns-in_default c =
    let found : get c.args.columns c.args.mutation.now.column ≡ None = search rules in
    mutated-none c.args.mutation.now c.args.columns found

pub returns-in_err-changed : goal.returns-in_err-changed
returns-in_err-changed c =
    let m = c.args.mutation.now in
    let old = c.in-Some.datum.now in
    let found : get c.args.columns m.column ≡ Some old = search rules in
    let p = err_from_is_err_and c.from_residual.result c.from_residual.ensures.1 in
    rw (p.1, p.2) (fault_of_row m c.args.columns old c.in_err-changed.field-0.0 found c.in_err-changed.ensures)

pub returns : goal.returns
returns c =
    let m = c.args.mutation.now in
    let old = c.in-Some.datum.now in
    let changed = c.in_ok-changed.changed in
    let found : get c.args.columns m.column ≡ Some old = search rules in
    mutated-value m c.args.columns old changed found c.in_ok-changed.ensures
    ∙ ap Ok (ap (λ name. insert c.args.columns name changed) (sym c.column-2.ensures) ∙ sym c.in_ok-with_value.ensures)
