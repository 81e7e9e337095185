-- A database of either stored format while its tables are being emptied.
use Rattle.std.specs.Prelude.{◌≡◌, ℕ, Bool, List, [], ◌∷◌, IsTrue, MatchBool}
use Rattle.std.specs.List.{AllByRecursion}
use Rattle.sqlite.specs.Table.{Table}
use Rattle.sqlite.specs.Schema.{Schema}
use Rattle.sqlite.specs.Effect.{IsDatabase}
use Rattle.sqlite.specs.State.{State}
use Rattle.sqlite.specs.Tree.{Trees}
use Rattle.ov_tables.specs.Tables.{tree_number, cell_trees, line_trees, HasTable, HasLineTables, HasCellTables}
use Rattle.ov_tables.specs.Format.{HasNumber, rows_listed}
use Rattle.ov_tables.specs.Holding.{HoldsLines, HoldsCells, KeepsTables, KeepsOthers}
use Rattle.ov_tables.specs.Making.{IsBare}

-- while the connection is open, the table is there, and each of its rows has a number
abbrev pub MayClear : (ℕ → Table) → List ℕ → State → Type 0
MayClear table name s =
    IsTrue s.is_open
    → HasTable s.now.schema (table (tree_number s.now.schema name)) × IsDatabase s.now
    × AllByRecursion HasNumber (rows_listed name s.now.trees)

-- the rows of the table of this name are gone, and nothing else has changed
pub record Clears (name : List ℕ) (old new : State) : Type 0 where
  pub mode : IsTrue new.in_transaction
  pub was_open : IsTrue old.is_open
  pub is_open : IsTrue new.is_open
  pub schema : new.now.schema ≡ old.now.schema
  pub rows : rows_listed name new.now.trees ≡ []
  pub others : KeepsOthers (tree_number old.now.schema name ∷ []) old.now.schema
      old.now.trees new.now.trees
  pub sound : IsDatabase new.now

-- Outside the tables of the stored format everything is as it was. A rewrite from format 1 also makes tables, so for it this
-- is said of the rows of the other tables alone.
abbrev pub KeepsRest : Schema → Trees → Trees → Type 0
KeepsRest schema old new =
    (HasLineTables schema → KeepsTables (line_trees schema) schema old new)
    × (HasCellTables schema → KeepsOthers (cell_trees schema) schema old new)

-- while the connection is open, the database is of stored format 2, or of format 1
abbrev pub MayHold : Bool → List ℕ → State → Type 0
MayHold in_cells text s =
    IsTrue s.is_open → MatchBool in_cells (HoldsCells text s.now) (HoldsLines text s.now)

-- the tables of stored format 2 are there, with no rows; whatever changes in them afterwards, the rest is as it was
pub record Empties (old new : State) : Type 0 where
  pub mode : IsTrue new.in_transaction
  pub was_open : IsTrue old.is_open
  pub is_open : IsTrue new.is_open
  pub bare : IsBare new.now
  pub rest : (next : Trees) → KeepsOthers (cell_trees new.now.schema) new.now.schema new.now.trees next
      → KeepsRest old.now.schema old.now.trees next
