-- The errors of the code as those of the definitions, and what may be returned instead of a result.
use Rattle.std.specs.Prelude.{◌≡◌, Result, Ok, Err}
use Rattle.ov_specs.specs.operations.Errors as spec
use Rattle.ov_conds.specs.declared.fault.ConditionFault.{ConditionFault}
use Rattle.ov_conds.specs.declared.fault.ConditionFault.TheVariants as condition
use Rattle.ov_projection.specs.declared.fault.OpError.{OpError}
use Rattle.ov_projection.specs.declared.fault.OpError.TheVariants as error
use Rattle.ov_projection.specs.declared.fault.OpFault.{OpFault}
use Rattle.ov_projection.specs.declared.fault.OpFault.TheVariants.{Refused, Memory}

-- an error
abbrev pub error_view : OpError → spec.OpError
error_view error.Syntax = spec.SyntaxError
error_view error.UnknownTable = spec.UnknownTable
error_view error.UnknownColumn = spec.UnknownColumn
error_view error.UnknownOperation = spec.UnknownOperation
error_view error.DuplicateName = spec.DuplicateName
error_view error.DuplicateUuid = spec.DuplicateUuid
error_view error.Constraint = spec.ConstraintViolation
error_view error.Domain = spec.DomainError
error_view error.Range = spec.RangeError
error_view error.TimedOut = spec.TimedOut
error_view error.Aborted = spec.Aborted
error_view error.NotOwner = spec.NotOwner
error_view error.ReferentialIntegrity = spec.ReferentialIntegrity
error_view error.ResourcesExhausted = spec.ResourcesExhausted
error_view error.InputOutput = spec.InputOutput

-- what is returned, or the error instead; "out of memory" may be returned in any case
abbrev pub IsOpResult : {A B : Type 0} → (A → B) → Result B spec.OpError → Result A OpFault → Type 0
IsOpResult seen given (Ok a) = given ≡ Ok (seen a)
IsOpResult seen given (Err (Refused error)) = given ≡ Err (error_view error)
IsOpResult seen given (Err Memory) = Unit {0}

-- the operation's fault for a fault of a condition
abbrev pub fault_of_condition : ConditionFault → OpFault
fault_of_condition condition.Syntax = Refused error.Syntax
fault_of_condition condition.UnknownColumn = Refused error.UnknownColumn
fault_of_condition condition.Memory = Memory
fault_of_condition condition.Clash = Refused error.Constraint
