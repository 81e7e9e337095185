-- How an operation goes on, member by member.
use Rattle.std.proofs.Common.{◌≡◌, refl, ap, ◌∙◌}
use Rattle.std.specs.Prelude.{Result, Ok, Err}
use Rattle.ov_specs.specs.operations.Errors.{OpError}
use Rattle.ov_specs.specs.operations.OpOutcome as spec
use Rattle.ov_specs.specs.operations.OpOutcome.{ok_or_fault}
use Rattle.ov_specs.specs.rows.Database.{Database}
use Rattle.ov_projection.specs.declared.fault.OpFault.{OpFault}
use Rattle.ov_projection.specs.declared.fault.OpFault.TheVariants.{Refused, Memory}
use Rattle.ov_projection.specs.Errors.{IsOpResult}
use Rattle.ov_ops.specs.Outcomes.{IsDone, IsOperationRefused, GoesOnAs}

-- with what was read of a member, or its error
pub goes_on : {A B : Type 0} (given : Result B OpError) (seen : A → B) (next : B → spec.OpOutcome) (r : Result A OpFault) → IsOpResult seen given r → GoesOnAs (ok_or_fault given next) (λ a. next (seen a)) r
goes_on given seen next (Ok a) h = rw h refl
goes_on given seen next (Err (Refused error)) h = rw h refl
goes_on given seen next (Err Memory) h = tt

-- the fault of a member, after those that were read
pub stops : (outcome other : spec.OpOutcome) (fault : OpFault) (rows : Database) → outcome ≡ other → IsOperationRefused other fault → IsDone outcome (Err fault) rows
stops outcome other (Refused error) rows e h = e ∙ h
stops outcome other Memory rows e h = tt

-- a member that cannot be read
pub refuses : {A B : Type 0} (given : Result B OpError) (seen : A → B) (next : B → spec.OpOutcome) (fault : OpFault) → IsOpResult seen given (Err fault) → IsOperationRefused (ok_or_fault given next) fault
refuses given seen next (Refused error) h = ap (λ r. ok_or_fault r next) h
refuses given seen next Memory h = tt

-- the same, without the rows
pub refused_by : (outcome other : spec.OpOutcome) (fault : OpFault) → outcome ≡ other → IsOperationRefused other fault → IsOperationRefused outcome fault
refused_by outcome other (Refused error) e h = e ∙ h
refused_by outcome other Memory e h = tt
