-- The outcome of an operation, in the code as in the definitions.
use Rattle.std.specs.Prelude.{◌≡◌, Result, Ok, Err}
use Rattle.serde_json.specs.Data.{Data}
use Rattle.ov_specs.specs.operations.OpOutcome as spec
use Rattle.ov_specs.specs.operations.OpOutcome.{Owns, OpContext}
use Rattle.ov_specs.specs.rows.Database.{Database}
use Rattle.ov_ops.specs.declared.context.OpCtx.{OpCtx}
use Rattle.ov_ops.specs.declared.outcome.OpOutcome.{OpOutcome}
use Rattle.ov_ops.specs.declared.outcome.OpOutcome.TheVariants.{Done, Fault, Blocked, NoMemory}
use Rattle.ov_projection.specs.declared.fault.OpFault.{OpFault}
use Rattle.ov_projection.specs.declared.fault.OpFault.TheVariants.{Refused, Memory}
use Rattle.ov_projection.specs.Errors.{error_view}

-- the transaction that an operation belongs to, on the database as it was before; `owned` says which locks its session owns
abbrev pub context_of : {O : Type 0} → (O → Owns) → OpCtx O → Database → OpContext
context_of owned ctx before = record {
  schema = ctx.schema.now;
  before = before;
  owns = owned ctx.owns.now;
  version = ctx.version;
  ids = ctx.inserts.now.ids;
  operations = ctx.inserts.now.operations;
  age = ctx.age;
}

-- the result of an operation and the rows that it leaves, or its error; "out of memory" may answer anything
abbrev pub IsDone : spec.OpOutcome → Result Data OpFault → Database → Type 0
IsDone outcome (Ok result) rows = outcome ≡ spec.Done result rows
IsDone outcome (Err (Refused error)) rows = outcome ≡ spec.Fault (error_view error)
IsDone outcome (Err Memory) rows = Unit {0}

-- the same for an operation that may wait
abbrev pub IsOutcome : spec.OpOutcome → OpOutcome → Database → Type 0
IsOutcome outcome (Done result) rows = outcome ≡ spec.Done result rows
IsOutcome outcome (Fault error) rows = outcome ≡ spec.Fault (error_view error)
IsOutcome outcome (Blocked timeout) rows = outcome ≡ spec.Blocked timeout
IsOutcome outcome NoMemory rows = Unit {0}

-- an operation has the error of a fault; "out of memory" may answer anything
abbrev pub IsOperationRefused : spec.OpOutcome → OpFault → Type 0
IsOperationRefused outcome (Refused error) = outcome ≡ spec.Fault (error_view error)
IsOperationRefused outcome Memory = Unit {0}

-- an operation goes on with what was read of its members, or has the error of reading them
abbrev pub GoesOnAs : {A : Type 0} → spec.OpOutcome → (A → spec.OpOutcome) → Result A OpFault → Type 0
GoesOnAs outcome next (Ok a) = outcome ≡ next a
GoesOnAs outcome next (Err fault) = IsOperationRefused outcome fault

-- the result of an operation, as its outcome
abbrev pub outcome_of_result : Result Data OpFault → OpOutcome
outcome_of_result (Ok result) = Done result
outcome_of_result (Err (Refused error)) = Fault error
outcome_of_result (Err Memory) = NoMemory
