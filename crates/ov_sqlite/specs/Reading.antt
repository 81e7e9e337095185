-- The rows of the tables, as they are read.
use Rattle.std.specs.Prelude.{◌≡◌, ◌≢◌, ℕ, ℤ, List, [], map, Bool, true, false, IsTrue, MatchBool, IsUtf8, length, Result, Err, IfOk}
use Rattle.std.specs.List.{AllByRecursion}
use Rattle.std.specs.List.Sorted.{IsPermutation}
use Rattle.sqlite.specs.declared.types.Value.{Value}
use Rattle.sqlite.specs.declared.types.Value.TheVariants.{Int, Text, Blob}
use Rattle.sqlite.specs.Order.{Row}
use Rattle.sqlite.specs.State.{State, HasCleanDisk, Survives}
use Rattle.std.specs.FinMap.{from_entries}
use Rattle.sqlite.specs.Effect.{Database}
use Rattle.ov_specs.specs.rows.Cells.{have_heads, format_of}
use Rattle.ov_keeper.specs.declared.cell_line.CellLine.{CellLine}
use Rattle.ov_keeper.specs.declared.fault.KeepFault.{KeepFault}
use Rattle.ov_keeper.specs.declared.fault.KeepFault.TheVariants.{Format}
use Rattle.ov_keeper.specs.declared.keeper.Lines.{Lines}
use Rattle.ov_keeper.specs.declared.keeper.Lines.TheVariants.{Whole, InCells}
use Rattle.ov_keeper.specs.declared.keeper.Loaded.{Loaded}
use Rattle.ov_keeper.specs.Keeping.{loaded_contents}
use Rattle.ov_keeper.specs.Views.{line_entry, cell_line_entry, lines_view}
use Rattle.ov_tables.specs.Tables.{HasLineTables, HasCellTables, HasOurTables}
use Rattle.ov_tables.specs.Format.{IsLine, IsHead, IsCell, entry, head_of, cell_of, stored_lines, stored_cells, stored_in, rows_of_line, rows_of_head, rows_of_cell}
use Rattle.ov_tables.specs.Holding.{IsNumbered, IsStoredAs}
use Rattle.ov_tables.specs.Querying.{IsAsBefore, head_selected}
use Rattle.ov_sqlite.specs.Joining.{AreNumbered, line_parts, head_parts}

-- the value is no number
abbrev pub IsNoNumber : Value → Type 0
IsNoNumber v = (n : ℤ) → v ≢ Int n

-- the value is no UTF-8 text
abbrev pub IsNoText : Value → Type 0
IsNoText v = (t : List ℕ) → v ≡ Text t → ¬ IsUtf8 t

-- the value is no blob
abbrev pub IsNoBlob : Value → Type 0
IsNoBlob v = (b : List ℕ) → v ≢ Blob b

-- the value is no blob of sixteen bytes
abbrev pub IsNoUuid : Value → Type 0
IsNoUuid v = (b : List ℕ) → v ≡ Blob b → length b ≢ 16

-- From old to new the tables were read, if what has to be there was. What is returned is what they held, and `Format` says that
-- they were malformed. Nothing is changed or committed.
pub record ReadsTables {A : Type 0} (result : Result A KeepFault) (May : State → Type 0)
    (Holds : Database → A → Type 0) (IsMalformed : Database → Type 0) (old new : State)
    : Type 0 where
  pub ok : HasCleanDisk new → May old
      → IfOk result (λ read. IsTrue old.is_open × Holds old.now read)
  pub format : HasCleanDisk new → May old → result ≡ Err Format
      → IsTrue old.is_open × IsMalformed old.now
  pub same : HasCleanDisk new → IsAsBefore old new
  pub survives : Survives old new (λ _. ⊥)

-- a row of `line` is no line
abbrev pub HasMalformedLine : Database → Type 0
HasMalformedLine db = ¬ AllByRecursion IsLine (rows_of_line db.trees)

-- a row of `head` is no head
abbrev pub HasMalformedHead : Database → Type 0
HasMalformedHead db = ¬ AllByRecursion IsHead (rows_of_head db.trees)

-- the rows that were read are those of the table; each is of this kind, and no two have one number
pub record ReadsRows {X : Type 0} (Is : Row → Type 0) (is : Row → X) (selected : Row → Row)
    (stored read : List Row) : Type 0 where
  pub same : IsPermutation (map selected stored) read
  pub are : AllByRecursion Is stored
  pub numbered : IsNumbered is stored
  pub distinct : AreNumbered read

-- the rows of `head` were read, and these are the lines that they are, without cells
abbrev pub ReadsHeads : List Row → List CellLine → Type 0
ReadsHeads stored lines =
    (heads : List Row) × ReadsRows IsHead head_of head_selected stored heads
    × (map line_parts lines ≡ map (head_parts []) heads)

-- while the connection is open, the tables of stored format 2 are there
abbrev pub MayReadCells : State → Type 0
MayReadCells s = IsTrue s.is_open → HasCellTables s.now.schema

-- `head` and `cell` have rows of stored format 2, and these are what they stand for
pub record ReadsCells (db : Database) (lines : List CellLine) : Type 0 where
  pub heads : AllByRecursion IsHead (rows_of_head db.trees)
  pub cells : AllByRecursion IsCell (rows_of_cell db.trees)
  pub owned : have_heads (map head_of (rows_of_head db.trees)) (map cell_of (rows_of_cell db.trees))
      ≡ true
  pub heads_numbered : IsNumbered head_of (rows_of_head db.trees)
  pub cells_numbered : IsNumbered cell_of (rows_of_cell db.trees)
  pub joined : stored_cells db.trees ≡ from_entries (map cell_line_entry lines)

-- while the connection is open, the tables of this format are there
abbrev pub MayReadRows : Bool → State → Type 0
MayReadRows in_cells s =
    IsTrue s.is_open → MatchBool in_cells (HasCellTables s.now.schema) (HasLineTables s.now.schema)

-- the rows of this format were read, and these are what they stand for
abbrev pub ReadsLines : Database → Lines → Type 0
ReadsLines db (Whole lines) =
    AllByRecursion IsLine (rows_of_line db.trees) × IsNumbered entry (rows_of_line db.trees)
    × (stored_lines (rows_of_line db.trees) ≡ from_entries (map line_entry lines.items))
ReadsLines db (InCells lines) = ReadsCells db lines.items

-- in cells, or whole
abbrev pub are_cells : Lines → Bool
are_cells (Whole lines) = false
are_cells (InCells lines) = true

-- while the connection is open, the tables of a format are there
abbrev pub MayHaveTables : State → Type 0
MayHaveTables s = IsTrue s.is_open → HasOurTables s.now.schema

-- the tables are those of the format of these lines, and this is what they hold
pub record IsHeldBy (db : Database) (loaded : Loaded) : Type 0 where
  pub stored : IsStoredAs (format_of (lines_view loaded.lines)) loaded.schema db
  pub holds : stored_in db.trees ≡ loaded_contents loaded
