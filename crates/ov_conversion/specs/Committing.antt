-- What a refusal says of the commit; for a private clause.
use Rattle.std.specs.Prelude.{◌≡◌, Result, Err}
use Rattle.ov_conversion.specs.declared.fault.ConversionFault.{ConversionFault}
use Rattle.ov_conversion.specs.declared.fault.ConversionFault.TheVariants.{NotConvertible}
use Rattle.ov_specs.specs.operations.Errors.{OpError}
use Rattle.ov_specs.specs.rows.Database.{Database}

-- if the rows are not convertible, the commit fails
abbrev pub IsConversionRefused : Result Database OpError → ConversionFault → Type 0
IsConversionRefused committed fault = fault ≡ NotConvertible → (error : OpError) × (committed ≡ Err error)
