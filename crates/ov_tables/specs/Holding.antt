-- A database of one of the stored formats, and what a change of its tables keeps of everything else.
use Rattle.std.specs.Prelude.{◌≡◌, ◌⊎◌, ◌==◌, ℕ, Bool, false, List, IsTrue}
use Rattle.std.specs.List.{AllByRecursion, list_any}
use Rattle.sqlite.specs.Order.{Row, column}
use Rattle.sqlite.specs.Tree.{Trees}
use Rattle.sqlite.specs.Schema.{Schema}
use Rattle.sqlite_rules.specs.Edit.{IsNoIndex}
use Rattle.sqlite.specs.Effect.{Database, IsDatabase}
use Rattle.sqlite.specs.State.{State}
use Rattle.ov_tables.specs.Format.{IsLineFormat, IsCellFormat, entry, head_of, cell_of, rows_of_line, rows_of_head, rows_of_cell}

-- rows with the same number are the same
abbrev pub IsNumbered : {X : Type 0} → (Row → X) → List Row → Type 0
IsNumbered is rows =
    AllByRecursion (λ r. AllByRecursion (λ s. column s 0 ≡ column r 0 → is s ≡ is r) rows) rows

-- stored format 1, in which a number names one line
pub record HoldsLines (text : List ℕ) (db : Database) : Type 0 where
  pub format : IsLineFormat text db
  pub numbered : IsNumbered entry (rows_of_line db.trees)
  pub sound : IsDatabase db

-- stored format 2, in which a number names one head, or one cell
pub record HoldsCells (text : List ℕ) (db : Database) : Type 0 where
  pub format : IsCellFormat text db
  pub heads_numbered : IsNumbered head_of (rows_of_head db.trees)
  pub cells_numbered : IsNumbered cell_of (rows_of_cell db.trees)
  pub sound : IsDatabase db

-- one of the two
abbrev pub IsStored : List ℕ → Database → Type 0
IsStored text db = HoldsLines text db ⊎ HoldsCells text db

-- the format of this number
abbrev pub IsStoredAs : ℕ → List ℕ → Database → Type 0
IsStoredAs n text db = ((n ≡ 1) × HoldsLines text db) ⊎ ((n ≡ 2) × HoldsCells text db)

-- the database is so while the connection is open
abbrev pub MayBeStored : List ℕ → State → Type 0
MayBeStored text s = IsTrue s.is_open → IsStored text s.now

-- the same of stored format 2
abbrev pub MayHoldCells : List ℕ → State → Type 0
MayHoldCells text s = IsTrue s.is_open → HoldsCells text s.now

-- the tree is one of these
abbrev pub is_among : List ℕ → ℕ → Bool
is_among trees t = list_any (λ n. t == n) trees

-- each table but those with these trees has the rows that it had
abbrev pub KeepsTables : List ℕ → Schema → Trees → Trees → Type 0
KeepsTables exempt schema old new =
    AllByRecursion (λ t. is_among exempt t.tree ≡ false → new t.tree ≡ old t.tree) schema.tables

-- outside these trees everything is as it was: the rows of each other table, and each tree that is not an index's
pub record KeepsOthers (exempt : List ℕ) (schema : Schema) (old new : Trees) : Type 0 where
  pub tables : KeepsTables exempt schema old new
  pub trees : (t : ℕ) → is_among exempt t ≡ false → IsNoIndex schema t → new t ≡ old t
