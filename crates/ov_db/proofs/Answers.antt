-- What an opening gives, by the rows that are held.
use Rattle.std.proofs.Common.{◌≡◌, ◌≢◌, ℕ, List, [], Bool, true, false, cond, Option, Some, None, refl, sym, ap, subst, ◌∙◌}
use Rattle.std.specs.Prelude.{Result, Ok, Err, IfOk}
use Rattle.std.specs.Str.{bytes_eq}
use Rattle.std.proofs.lemmas.Slice.Eq.{bytes_eq-Decides}
use Rattle.serde_json.specs.Written.{compact_text}
use Rattle.ov_specs.specs.conversion.Converted as refusal
use Rattle.ov_specs.specs.conversion.Converted.{OpenRefusal, converted, converted_from, if_held, opened, opening_of, schema_stored, stored_of}
use Rattle.ov_specs.specs.integrity.Committed.{is_whole}
use Rattle.ov_specs.specs.rows.Cells.{Stored, StoredLines, Whole, InCells, format_of}
use Rattle.ov_specs.specs.rows.Database.{Database}
use Rattle.ov_specs.specs.rows.Held.{held}
use Rattle.ov_specs.specs.schema.SchemaTypes.{Schema}
use Rattle.ov_specs.specs.values.Uuid.{Uuid}
use Rattle.ov_keeper.specs.declared.fault.KeepFault.{KeepFault}
use Rattle.ov_keeper.specs.declared.fault.KeepFault.TheVariants as keeping
use Rattle.ov_keeper.specs.Keeping.{IsCommitFault, IsLoadFault}
use Rattle.ov_stored.specs.declared.fault.OpenFault.{OpenFault}
use Rattle.ov_stored.specs.declared.fault.OpenFault.TheVariants.{SchemaDiffers, BadBody, Broken, TypeChanged, NotConvertible, Keeping}
use Rattle.ov_db.specs.declared.resident.Resident.{Resident}
use Rattle.ov_stored.specs.Loading.{IsNotLoaded}
use Rattle.ov_db.specs.Opening.{IsFaultAs, IsNotWhole, IsReadFault, IsOpeningRefused, TellsRefusal, open_of, opens_as}
use Rattle.ov_db.specs.Residing.{IsResident}
use Rattle.ov_stored.proofs.Loads.{cells_held}

-- ---- by the text that is held

test_is : (a b : List ℕ) → a ≡ b → bytes_eq a b ≡ true
test_is a b e = (bytes_eq-Decides a b).1 e

test_differs : (a b : List ℕ) → a ≢ b → bytes_eq a b ≡ false
test_differs a b differ = by (bytes_eq a b) refl
  where
    by : (t : Bool) → bytes_eq a b ≡ t → t ≡ false
    by false is = refl
    by true is = absurd (differ ((bytes_eq-Decides a b).0 is))

-- under the schema's own text the rows that are held are opened, whether or not there is a version
pub own_opens : (schema : Schema) (version : Option Uuid) (stored : Stored) → stored.schema ≡ compact_text schema.tree → opens_as schema version stored ≡ if_held (held schema stored.lines) (opened schema)
own_opens schema None stored same =
    let is = test_is stored.schema (compact_text schema.tree) same in
    ap (λ b. cond b (opening_of schema [] stored) (Err refusal.SchemaDiffers)) is
    ∙ ap (λ b. cond b (if_held (held schema stored.lines) (opened schema)) (converted_from (schema_stored stored.schema) schema [] stored.lines)) is
own_opens schema (Some version) stored same =
    ap (λ b. cond b (if_held (held schema stored.lines) (opened schema)) (converted_from (schema_stored stored.schema) schema version stored.lines)) (test_is stored.schema (compact_text schema.tree) same)

-- under another text they are converted
pub other_opens : (schema : Schema) (version : Uuid) (stored : Stored) → stored.schema ≢ compact_text schema.tree → opens_as schema (Some version) stored ≡ converted_from (schema_stored stored.schema) schema version stored.lines
other_opens schema version stored differ =
    ap (λ b. cond b (if_held (held schema stored.lines) (opened schema)) (converted_from (schema_stored stored.schema) schema version stored.lines)) (test_differs stored.schema (compact_text schema.tree) differ)

-- or refused
pub other_refused : (schema : Schema) (stored : Stored) → stored.schema ≢ compact_text schema.tree → opens_as schema None stored ≡ Err refusal.SchemaDiffers
other_refused schema stored differ = ap (λ b. cond b (opening_of schema [] stored) (Err refusal.SchemaDiffers)) (test_differs stored.schema (compact_text schema.tree) differ)

-- what is opened without a conversion is held under the schema's own text
pub own_text : (schema : Schema) (stored : Stored) (database : Database) → open_of schema stored ≡ Ok database → stored.schema ≡ compact_text schema.tree
own_text schema stored database h = by (bytes_eq stored.schema (compact_text schema.tree)) refl h
  where
    by : (b : Bool) → bytes_eq stored.schema (compact_text schema.tree) ≡ b → cond b (opening_of schema [] stored) (Err refusal.SchemaDiffers) ≡ Ok database → stored.schema ≡ compact_text schema.tree
    by true is k = (bytes_eq-Decides stored.schema (compact_text schema.tree)).0 is
    by false is k = cc

-- under that text, the version of a conversion is not looked at
pub any_version : (schema : Schema) (version : Uuid) (stored : Stored) (answer : Result Database OpenRefusal) → stored.schema ≡ compact_text schema.tree → open_of schema stored ≡ answer → opening_of schema version stored ≡ answer
any_version schema version stored answer same is = own_opens schema (Some version) stored same ∙ sym (own_opens schema None stored same) ∙ is

-- ---- by the rows that are held

not_opened : (o : Option Database) (schema : Schema) (r : OpenRefusal) → if_held o (opened schema) ≡ Err r → (r ≡ refusal.BadBody → ⊥) → (r ≡ refusal.Broken → ⊥) → ⊥
not_opened None schema r h bad broken = bad cc
not_opened (Some rows) schema r h bad broken = by (is_whole schema rows) h
  where
    by : (b : Bool) → cond b (Ok rows) (Err refusal.Broken) ≡ Err r → ⊥
    by true k = cc
    by false k = broken cc

-- an open without a conversion refuses another text, and nothing else, as another schema
pub another_text : (schema : Schema) (stored : Stored) → open_of schema stored ≡ Err refusal.SchemaDiffers → stored.schema ≢ compact_text schema.tree
another_text schema stored h same = not_opened (held schema stored.lines) schema refusal.SchemaDiffers (sym (own_opens schema None stored same) ∙ h) (λ e. cc) (λ e. cc)

-- no rows are held
pub unloaded : (o : Option Database) (next : Database → Result Database OpenRefusal) (fault : OpenFault) → IsNotLoaded o fault → IsOpeningRefused (if_held o next) fault
unloaded o next BadBody is = ap (λ (p : Option Database). if_held p next) is
unloaded o next (Keeping fault) is = is
unloaded o next SchemaDiffers is = absurd is
unloaded o next Broken is = absurd is
unloaded o next TypeChanged is = absurd is
unloaded o next NotConvertible is = absurd is

-- those that are held break a rule
pub not_whole : (schema : Schema) (o : Option Database) (rows : Database) (fault : OpenFault) → o ≡ Some rows → IsNotWhole schema rows fault → IsOpeningRefused (if_held o (opened schema)) fault
not_whole schema o rows Broken held is = ap (λ (p : Option Database). if_held p (opened schema)) held ∙ ap (λ b. cond b (Ok rows) (Err refusal.Broken)) is
not_whole schema o rows (Keeping fault) held is = is
not_whole schema o rows SchemaDiffers held is = absurd is
not_whole schema o rows BadBody held is = absurd is
not_whole schema o rows TypeChanged held is = absurd is
not_whole schema o rows NotConvertible held is = absurd is

-- those that are held are opened
pub whole_opens : (schema : Schema) (o : Option Database) (rows : Database) (result : Result Resident OpenFault) → o ≡ Some rows → IfOk result (IsResident schema rows) → IfOk result (λ resident. is_whole schema rows ≡ true)
    → IfOk result (λ resident. if_held o (opened schema) ≡ Ok resident.rows)
whole_opens schema o rows (Err fault) held is whole = tt
whole_opens schema o rows (Ok resident) held is whole =
    ap (λ (p : Option Database). if_held p (opened schema)) held ∙ ap (λ b. cond b (Ok rows) (Err refusal.Broken)) whole ∙ ap Ok (sym is.0)

held_opened : (o : Option Database) (schema : Schema) (database : Database) → if_held o (opened schema) ≡ Ok database → o ≡ Some database
held_opened None schema database h = cc
held_opened (Some rows) schema database h = by (is_whole schema rows) h
  where
    by : (b : Bool) → cond b (Ok rows) (Err refusal.Broken) ≡ Ok database → Some rows ≡ Some database
    by true k = cc
    by false k = cc

-- rows in cells that are opened under the schema's own text are what is stored of them
pub current_stored : (schema : Schema) (version : Option Uuid) (stored : Stored) (database : Database) → stored.schema ≡ compact_text schema.tree → format_of stored.lines ≡ 2 → opens_as schema version stored ≡ Ok database
    → stored ≡ stored_of schema database
current_stored schema version stored database same of_format opens =
    by stored.lines of_format (held_opened (held schema stored.lines) schema database (sym (own_opens schema version stored same) ∙ opens))
  where
    by : (lines : StoredLines) → format_of lines ≡ 2 → held schema lines ≡ Some database → record { schema = stored.schema; lines = lines } ≡ stored_of schema database
    by (Whole lines) is h = cc
    by (InCells lines) is h = λ i. record { schema = same i; lines = InCells (cells_held schema lines database h i) }

-- ---- a conversion

-- the stored text is no schema
pub no_schema : (o : Option Schema) (schema : Schema) (version : Uuid) (lines : StoredLines) (fault : OpenFault) → IsNotLoaded o fault → IsOpeningRefused (converted_from o schema version lines) fault
no_schema o schema version lines BadBody is = ap (λ (p : Option Schema). converted_from p schema version lines) is
no_schema o schema version lines (Keeping fault) is = is
no_schema o schema version lines SchemaDiffers is = absurd is
no_schema o schema version lines Broken is = absurd is
no_schema o schema version lines TypeChanged is = absurd is
no_schema o schema version lines NotConvertible is = absurd is

-- the stored rows are no rows of it
pub no_rows : (o : Option Schema) (old schema : Schema) (version : Uuid) (lines : StoredLines) (fault : OpenFault) → o ≡ Some old → IsNotLoaded (held old lines) fault → IsOpeningRefused (converted_from o schema version lines) fault
no_rows o old schema version lines fault is none =
    subst (λ (p : Option Schema). IsOpeningRefused (converted_from p schema version lines) fault) (sym is) (unloaded (held old lines) (converted old schema version) fault none)

-- those that are held are converted
pub converts : (o : Option Schema) (old schema : Schema) (version : Uuid) (lines : StoredLines) (rows : Database) → o ≡ Some old → held old lines ≡ Some rows → converted_from o schema version lines ≡ converted old schema version rows
converts o old schema version lines rows is held_is =
    ap (λ (p : Option Schema). converted_from p schema version lines) is ∙ ap (λ (p : Option Database). if_held p (converted old schema version)) held_is

-- ---- faults

-- the same answer is refused the same
pub refused_same : (a b : Result Database OpenRefusal) (fault : OpenFault) → b ≡ a → IsOpeningRefused a fault → IsOpeningRefused b fault
refused_same a b fault same is = subst (λ (r : Result Database OpenRefusal). IsOpeningRefused r fault) (sym same) is

pub tells : (answer : Result Database OpenRefusal) (fault : OpenFault) → IsOpeningRefused answer fault → TellsRefusal answer fault
tells answer SchemaDiffers is = is
tells answer BadBody is = is
tells answer Broken is = is
tells answer TypeChanged is = is
tells answer NotConvertible is = is
tells answer (Keeping fault) is = tt

pub memory_commits : (fault : KeepFault) → fault ≡ keeping.Memory → IsCommitFault fault
memory_commits fault is = subst IsCommitFault (sym is) tt

pub memory_loads : (fault : KeepFault) → fault ≡ keeping.Memory → IsLoadFault fault
memory_loads fault is = subst IsLoadFault (sym is) tt

pub load_commits : (fault : KeepFault) → IsLoadFault fault → IsCommitFault fault
load_commits keeping.Memory is = tt
load_commits keeping.Device is = tt
load_commits keeping.TooLarge is = absurd is
load_commits keeping.NotOurs is = absurd is
load_commits keeping.Format is = absurd is

pub keeps_as : (version : Option Uuid) (fault : KeepFault) → IsCommitFault fault → IsFaultAs version (Keeping fault)
keeps_as None fault is = is
keeps_as (Some version) fault is = is

no_conversion : (schema : Schema) (stored : Stored) (r : OpenRefusal) → open_of schema stored ≡ Err r → (r ≡ refusal.SchemaDiffers → ⊥) → (r ≡ refusal.BadBody → ⊥) → (r ≡ refusal.Broken → ⊥) → ⊥
no_conversion schema stored r h differs bad broken = by (bytes_eq stored.schema (compact_text schema.tree)) refl h
  where
    by : (b : Bool) → bytes_eq stored.schema (compact_text schema.tree) ≡ b → cond b (opening_of schema [] stored) (Err refusal.SchemaDiffers) ≡ Err r → ⊥
    by false is k = differs cc
    by true is k =
        let same = (bytes_eq-Decides stored.schema (compact_text schema.tree)).0 is in
        not_opened (held schema stored.lines) schema r (sym (own_opens schema None stored same) ∙ h) bad broken

pub kind_as : (schema : Schema) (version : Option Uuid) (stored : Stored) (fault : OpenFault) → IsOpeningRefused (opens_as schema version stored) fault → IsFaultAs version fault
kind_as schema None stored SchemaDiffers is = tt
kind_as schema None stored BadBody is = tt
kind_as schema None stored Broken is = tt
kind_as schema None stored TypeChanged is = no_conversion schema stored refusal.TypeChanged is (λ e. cc) (λ e. cc) (λ e. cc)
kind_as schema None stored NotConvertible is = no_conversion schema stored refusal.NotConvertible is (λ e. cc) (λ e. cc) (λ e. cc)
kind_as schema None stored (Keeping fault) is = memory_commits fault is
kind_as schema (Some version) stored SchemaDiffers is = tt
kind_as schema (Some version) stored BadBody is = tt
kind_as schema (Some version) stored Broken is = tt
kind_as schema (Some version) stored TypeChanged is = tt
kind_as schema (Some version) stored NotConvertible is = tt
kind_as schema (Some version) stored (Keeping fault) is = memory_commits fault is

pub reads_only : (answer : Result Database OpenRefusal) (fault : OpenFault) → IsOpeningRefused answer fault → IsReadFault fault
reads_only answer SchemaDiffers is = tt
reads_only answer BadBody is = tt
reads_only answer Broken is = tt
reads_only answer TypeChanged is = tt
reads_only answer NotConvertible is = tt
reads_only answer (Keeping fault) is = memory_loads fault is

-- a refusal is no failure of the device
pub no_device : (answer : Result Database OpenRefusal) (fault : OpenFault) → IsOpeningRefused answer fault → fault ≡ Keeping keeping.Device → ⊥
no_device answer SchemaDiffers is e = cc
no_device answer BadBody is e = cc
no_device answer Broken is e = cc
no_device answer TypeChanged is e = cc
no_device answer NotConvertible is e = cc
no_device answer (Keeping fault) is e = cc
