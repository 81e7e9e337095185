-- How the program ends, by what it met.
use Rattle.ov_words.specs.declared.ending.Ending.{Ending}
use Rattle.ov_words.specs.declared.ending.Ending.TheVariants as ends
use Rattle.ov_words.specs.declared.fault.WordFault.{WordFault}
use Rattle.ov_words.specs.declared.fault.WordFault.TheVariants as words
use Rattle.ov_schema_text.specs.declared.file_fault.SchemaFileFault.{SchemaFileFault}
use Rattle.ov_schema_text.specs.declared.file_fault.SchemaFileFault.TheVariants as schemas
use Rattle.ov_keeper.specs.declared.fault.KeepFault.{KeepFault}
use Rattle.ov_keeper.specs.declared.fault.KeepFault.TheVariants as keeping
use Rattle.ov_stored.specs.declared.fault.OpenFault.{OpenFault}
use Rattle.ov_stored.specs.declared.fault.OpenFault.TheVariants as opening
use Rattle.ov_history.specs.declared.event.Cause.{Cause}
use Rattle.ov_history.specs.declared.event.Cause.TheVariants as causes
use Rattle.ov_history.specs.declared.event.StepFault.{StepFault}
use Rattle.ov_history.specs.declared.event.StepFault.TheVariants as steps

-- the ending if the arguments give no settings
abbrev pub by_words : WordFault → Ending
by_words words.Refused = ends.Arguments
by_words words.Memory = ends.Memory

-- the ending if a file gives no schema
abbrev pub by_schema : SchemaFileFault → Ending
by_schema schemas.Memory = ends.Memory
by_schema schemas.Unread = ends.Schema
by_schema schemas.NotJson = ends.Schema
by_schema (schemas.Refused fault) = ends.Schema

-- the ending if a keeper refuses
abbrev pub by_keeping : KeepFault → Ending
by_keeping keeping.Memory = ends.Memory
by_keeping keeping.Device = ends.Database
by_keeping keeping.NotOurs = ends.Database
by_keeping keeping.Format = ends.Database
by_keeping keeping.TooLarge = ends.Database

-- the ending if a database is not opened
abbrev pub by_open : OpenFault → Ending
by_open opening.SchemaDiffers = ends.Database
by_open opening.BadBody = ends.Database
by_open opening.Broken = ends.Database
by_open opening.TypeChanged = ends.Database
by_open opening.NotConvertible = ends.Database
by_open (opening.Keeping fault) = by_keeping fault

-- the ending if a session is not opened
abbrev pub by_step : StepFault → Ending
by_step steps.TooMany = ends.Streams
by_step steps.NotOpen = ends.Streams
by_step steps.Memory = ends.Memory

-- the ending after a session was closed
abbrev pub by_cause : Cause → Ending
by_cause causes.InputEnded = ends.InputEnded
by_cause causes.ReadFault = ends.Streams
by_cause causes.WriteFault = ends.Streams
by_cause causes.Damaged = ends.Streams
by_cause causes.Overrun = ends.Streams
by_cause causes.Memory = ends.Memory
