-- What an open gives of what a keeper holds, with a conversion or without one; why it is refused; and what is held then.
use Rattle.std.specs.Prelude.{◌≡◌, ◌≢◌, ◌⊎◌, [], if◌then◌else◌, false, Option, Some, None, Result, Ok, Err}
use Rattle.std.specs.Str.{bytes_eq}
use Rattle.serde_json.specs.Written.{compact_text}
use Rattle.ov_specs.specs.conversion.Converted as refusal
use Rattle.ov_specs.specs.conversion.Converted.{OpenRefusal, opening_of, stored_of}
use Rattle.ov_specs.specs.integrity.Committed.{is_whole}
use Rattle.ov_specs.specs.rows.Cells.{Stored, format_of}
use Rattle.ov_specs.specs.rows.Database.{Database}
use Rattle.ov_specs.specs.schema.SchemaTypes.{Schema}
use Rattle.ov_specs.specs.values.Uuid.{Uuid}
use Rattle.ov_keeper.specs.declared.fault.KeepFault.TheVariants.{Memory, Device}
use Rattle.ov_keeper.specs.Keeping.{IsCommitFault, IsLoadFault}
use Rattle.ov_stored.specs.declared.fault.OpenFault.{OpenFault}
use Rattle.ov_stored.specs.declared.fault.OpenFault.TheVariants.{SchemaDiffers, BadBody, Broken, TypeChanged, NotConvertible, Keeping}

-- What an open without a conversion gives. Another text than the schema's is refused; under the schema's own, `opening_of`
-- does not look at the version.
abbrev pub open_of : Schema → Stored → Result Database OpenRefusal
open_of schema held =
    if bytes_eq held.schema (compact_text schema.tree) then opening_of schema [] held else Err refusal.SchemaDiffers

-- what an open gives, with a conversion in a commit of this version, or without one
abbrev pub opens_as : Schema → Option Uuid → Stored → Result Database OpenRefusal
opens_as schema None held = open_of schema held
opens_as schema (Some version) held = opening_of schema version held

-- ---- why an open is refused

-- the refusal that a fault tells; a keeper's own fault comes before all of these, or where the rows are written anew
abbrev pub TellsRefusal : Result Database OpenRefusal → OpenFault → Type 0
TellsRefusal answer SchemaDiffers = answer ≡ Err refusal.SchemaDiffers
TellsRefusal answer BadBody = answer ≡ Err refusal.BadBody
TellsRefusal answer Broken = answer ≡ Err refusal.Broken
TellsRefusal answer TypeChanged = answer ≡ Err refusal.TypeChanged
TellsRefusal answer NotConvertible = answer ≡ Err refusal.NotConvertible
TellsRefusal answer (Keeping fault) = Unit {0}

-- what is held refuses the open, or the keeper refuses the load or the rows that are written anew
abbrev pub IsOpenFault : OpenFault → Type 0
IsOpenFault SchemaDiffers = Unit {0}
IsOpenFault BadBody = Unit {0}
IsOpenFault Broken = Unit {0}
IsOpenFault TypeChanged = ⊥
IsOpenFault NotConvertible = ⊥
IsOpenFault (Keeping fault) = IsCommitFault fault

-- the same of an open with a conversion
abbrev pub IsConvertFault : OpenFault → Type 0
IsConvertFault SchemaDiffers = Unit {0}
IsConvertFault BadBody = Unit {0}
IsConvertFault Broken = Unit {0}
IsConvertFault TypeChanged = Unit {0}
IsConvertFault NotConvertible = Unit {0}
IsConvertFault (Keeping fault) = IsCommitFault fault

-- if the keeper refuses, it refuses a load: nothing was written
abbrev pub IsReadFault : OpenFault → Type 0
IsReadFault SchemaDiffers = Unit {0}
IsReadFault BadBody = Unit {0}
IsReadFault Broken = Unit {0}
IsReadFault TypeChanged = Unit {0}
IsReadFault NotConvertible = Unit {0}
IsReadFault (Keeping fault) = IsLoadFault fault

-- an open finds one thing alone
abbrev pub FindsOne : (Stored → Type 0) → Type 0
FindsOne leaves = (a b : Stored) → leaves a → leaves b → a ≡ b

-- ---- what is held then

-- what is held has to be written anew: its format is 1, or its text is another one than the schema's
abbrev pub IsOutdated : Schema → Stored → Type 0
IsOutdated schema held = (format_of held.lines ≡ 1) ⊎ (held.schema ≢ compact_text schema.tree)

-- what is found is the database as the open wrote it, over something outdated that opens as the database
pub record IsRenewed (old : Stored → Type 0) (opens : Stored → Result Database OpenRefusal) (schema : Schema)
    (database : Database) (found : Stored) : Type 0 where
  pub before : Stored
  pub was : old before
  pub outdated : IsOutdated schema before
  pub opened : opens before ≡ Ok database
  pub now : found ≡ stored_of schema database

-- what is found now might have been found before, or is the database, written anew
abbrev pub LeavesOpened : (Stored → Type 0) → (Stored → Type 0) → (Stored → Result Database OpenRefusal) → Schema
    → Database → Type 0
LeavesOpened old new opens schema database = (found : Stored) → new found → old found ⊎ IsRenewed old opens schema database found

-- what is found now might have been found before; or the device failed, and it is a database, written anew
abbrev pub LeavesUnopened : (Stored → Type 0) → (Stored → Type 0) → (Stored → Result Database OpenRefusal) → Schema
    → OpenFault → Type 0
LeavesUnopened old new opens schema fault =
    (found : Stored) → new found
    → old found ⊎ ((fault ≡ Keeping Device) × ((database : Database) × IsRenewed old opens schema database found))

-- ---- for private clauses

-- the answer is this refusal, or an allocation failed before it was known
abbrev pub IsOpeningRefused : Result Database OpenRefusal → OpenFault → Type 0
IsOpeningRefused answer SchemaDiffers = answer ≡ Err refusal.SchemaDiffers
IsOpeningRefused answer BadBody = answer ≡ Err refusal.BadBody
IsOpeningRefused answer Broken = answer ≡ Err refusal.Broken
IsOpeningRefused answer TypeChanged = answer ≡ Err refusal.TypeChanged
IsOpeningRefused answer NotConvertible = answer ≡ Err refusal.NotConvertible
IsOpeningRefused answer (Keeping fault) = fault ≡ Memory

-- the rows break a rule of commits, or an allocation failed before that was known
abbrev pub IsNotWhole : Schema → Database → OpenFault → Type 0
IsNotWhole schema database Broken = is_whole schema database ≡ false
IsNotWhole schema database (Keeping fault) = fault ≡ Memory
IsNotWhole schema database SchemaDiffers = ⊥
IsNotWhole schema database BadBody = ⊥
IsNotWhole schema database TypeChanged = ⊥
IsNotWhole schema database NotConvertible = ⊥

-- the faults of an open, with a conversion or without one
abbrev pub IsFaultAs : Option Uuid → OpenFault → Type 0
IsFaultAs None = IsOpenFault
IsFaultAs (Some version) = IsConvertFault
