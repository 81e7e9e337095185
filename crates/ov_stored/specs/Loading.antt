-- The rows that a list of stored rows gives, taken one by one.
use Rattle.std.specs.Prelude.{◌≡◌, List, [], ◌∷◌, if◌then◌else◌, Option, Some, None, option_and_then, option_map, Result, Ok, Err}
use Rattle.std.specs.FinMap.{contains_key, insert}
use Rattle.ov_keeper.specs.declared.cell_line.CellLine.{CellLine}
use Rattle.ov_keeper.specs.declared.fault.KeepFault.TheVariants.{Memory}
use Rattle.ov_keeper.specs.declared.line.Line.{Line}
use Rattle.ov_keeper.specs.Views.{cells_view}
use Rattle.ov_stored.specs.declared.fault.OpenFault.{OpenFault}
use Rattle.ov_stored.specs.declared.fault.OpenFault.TheVariants.{SchemaDiffers, BadBody, Broken, TypeChanged, NotConvertible, Keeping}
use Rattle.ov_stored.specs.Stored.{RowBody, row_stored}
use Rattle.ov_specs.specs.rows.Database.{Database}
use Rattle.ov_specs.specs.rows.Held.{OneText, OfCells}
use Rattle.ov_specs.specs.rows.Lines.{LineKey}
use Rattle.ov_specs.specs.schema.SchemaTypes.{Schema}

-- a row as format 1 stores it, with its key
abbrev pub whole_entry : Line → LineKey × RowBody
whole_entry line = ((line.table, line.id), (line.version, OneText line.body))

-- a row as format 2 stores it, with its key
abbrev pub cells_entry : CellLine → LineKey × RowBody
cells_entry line = ((line.table, line.id), (line.version, OfCells (cells_view line.cells.items)))

-- the rows with the one that is stored as this, if they have none with its key yet
abbrev pub with_line : Schema → LineKey × RowBody → Database → Option Database
with_line schema entry rows =
    if contains_key rows entry.0 then Some rows else option_map (insert rows entry.0) (row_stored schema entry.0 entry.1)

-- the rows with those that are stored as these; if two of them have the same key, the first counts
abbrev pub with_lines : Schema → List (LineKey × RowBody) → Database → Option Database
with_lines schema [] rows = Some rows
with_lines schema (entry ∷ entries) rows = option_and_then (with_lines schema entries) (with_line schema entry rows)

-- there is no result; "out of memory" is a possible answer to anything
abbrev pub IsNotLoaded : {A : Type 0} → Option A → OpenFault → Type 0
IsNotLoaded given BadBody = given ≡ None
IsNotLoaded given (Keeping fault) = fault ≡ Memory
IsNotLoaded given SchemaDiffers = ⊥
IsNotLoaded given Broken = ⊥
IsNotLoaded given TypeChanged = ⊥
IsNotLoaded given NotConvertible = ⊥

-- the result, or that there is none
abbrev pub IsLoaded : {A B : Type 0} → (A → B) → Option B → Result A OpenFault → Type 0
IsLoaded seen given (Ok a) = given ≡ Some (seen a)
IsLoaded seen given (Err fault) = IsNotLoaded given fault
