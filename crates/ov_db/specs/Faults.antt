-- The faults of a schema's text and of a conversion as those of an open.
use Rattle.ov_schema.specs.declared.fault.SchemaFault.TheVariants as schemas
use Rattle.ov_schema_text.specs.declared.file_fault.SchemaFileFault.{SchemaFileFault}
use Rattle.ov_schema_text.specs.declared.file_fault.SchemaFileFault.TheVariants as texts
use Rattle.ov_conversion.specs.declared.fault.ConversionFault.{ConversionFault}
use Rattle.ov_conversion.specs.declared.fault.ConversionFault.TheVariants as conversions
use Rattle.ov_keeper.specs.declared.fault.KeepFault.TheVariants.{Memory}
use Rattle.ov_stored.specs.declared.fault.OpenFault.{OpenFault}
use Rattle.ov_stored.specs.declared.fault.OpenFault.TheVariants.{BadBody, NotConvertible, Keeping}

-- the stored text is no schema, unless an allocation failed
abbrev pub by_text : SchemaFileFault → OpenFault
by_text texts.Memory = Keeping Memory
by_text texts.Unread = BadBody
by_text texts.NotJson = BadBody
by_text (texts.Refused schemas.Memory) = Keeping Memory
by_text (texts.Refused fault) = BadBody

-- the rows are not convertible, unless an allocation failed
abbrev pub by_conversion : ConversionFault → OpenFault
by_conversion conversions.Memory = Keeping Memory
by_conversion conversions.NotConvertible = NotConvertible
