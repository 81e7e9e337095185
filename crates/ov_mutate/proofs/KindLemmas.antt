-- What a call that mutates a value returns, by the law of what a mutation makes.
use Rattle.std.proofs.Common.{◌≡◌, true, Result, Ok, Err, IfOk}
use Rattle.ov_specs.specs.operations.Mutators.{Change, mutated, suits_change}
use Rattle.ov_specs.specs.schema.SchemaTypes.{ColumnType, kinds_of}
use Rattle.ov_specs.specs.values.Value.{Datum, is_of}
use Rattle.ov_specs.proofs.laws.OfColumns.{mutated_is_of}
use Rattle.ov_mutate.specs.declared.fault.MutateFault.{MutateFault}
use Rattle.ov_mutate.specs.Faults.{IsMutated}

-- the value that is made of one of the column's kinds is of them too
pub made_is_of : (t : ColumnType) (change : Change) (v : Datum) (r : Result Datum MutateFault) → IsMutated (λ d. d) (mutated t change v) r
    → suits_change t change ≡ true → is_of (kinds_of t) v ≡ true → IfOk r (λ d. is_of (kinds_of t) d ≡ true)
made_is_of t change v (Ok made) is suits h = mutated_is_of t change v made suits h is
made_is_of t change v (Err fault) is suits h = tt
