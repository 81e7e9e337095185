-- The faults of the code as refusals of the definitions.
use Rattle.std.specs.Prelude.{Option, Some, None}
use Rattle.ov_specs.specs.schema.Schema as schema
use Rattle.ov_specs.specs.schema.Schema.{SchemaRefusal}
use Rattle.ov_schema.specs.declared.fault.SchemaFault.{SchemaFault}
use Rattle.ov_schema.specs.declared.fault.SchemaFault.TheVariants as fault

-- what a fault says of the tree; "out of memory" says nothing
abbrev pub refusal_view : SchemaFault → Option SchemaRefusal
refusal_view fault.Syntax = Some schema.BadMember
refusal_view fault.BadName = Some schema.BadName
refusal_view fault.BadVersion = Some schema.BadVersion
refusal_view fault.NoColumns = Some schema.NoColumns
refusal_view fault.BadRange = Some schema.BadRange
refusal_view fault.RealNotSupported = Some schema.RealNotSupported
refusal_view fault.UnknownRefTable = Some schema.UnknownRefTable
refusal_view fault.BadRefType = Some schema.BadRefType
refusal_view fault.BadEnum = Some schema.BadEnum
refusal_view fault.BadIndex = Some schema.BadIndex
refusal_view fault.StrongWeakMap = Some schema.StrongWeakMap
refusal_view fault.Memory = None
