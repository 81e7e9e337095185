-- How a statement changes the rows of stored format 2.
use Rattle.std.specs.Prelude.{◌≡◌, ℕ, List, [], ◌∷◌, IsTrue, Some, None, IfSome, option_map, cond}
use Rattle.std.specs.Ordering.{eq_by_cmp}
use Rattle.std.specs.FinMap.{empty, get, insert}
use Rattle.sqlite.specs.declared.error.Error.{Error}
use Rattle.sqlite.specs.declared.error.Error.TheVariants.{SqliteFailure}
use Rattle.sqlite.specs.declared.error.ErrorCode.TheVariants.{ConstraintViolation}
use Rattle.sqlite_schema.specs.declared.schema.Constraint.{Constraint}
use Rattle.sqlite.specs.Tree.{Trees}
use Rattle.sqlite.specs.State.{State}
use Rattle.ov_specs.specs.rows.Cells.{CellLine, CellLines}
use Rattle.ov_specs.specs.rows.Lines.{LineKey, line_cmp}
use Rattle.ov_specs.specs.values.Uuid.{Uuid}
use Rattle.ov_tables.specs.Format.{stored_cells, rows_of_meta}
use Rattle.ov_tables.specs.Tables.{row_trees}
use Rattle.ov_tables.specs.Holding.{HoldsCells, MayHoldCells, KeepsOthers}

-- in a transaction that goes on, the rows of stored format 2 became others, as `Became` relates them, and nothing was committed
pub record MakesRows (Became : CellLines → CellLines → Type 0) (text : List ℕ) (old new : State)
    : Type 0 where
  pub mode : IsTrue new.in_transaction
  pub opens : IsTrue new.is_open → IsTrue old.is_open
  pub stored : MayHoldCells text new
  pub lines_are : Became (stored_cells old.now.trees) (stored_cells new.now.trees)
  pub meta : rows_of_meta new.now.trees ≡ rows_of_meta old.now.trees
  pub schema : new.now.schema ≡ old.now.schema
  pub others : KeepsOthers (row_trees old.now.schema) old.now.schema old.now.trees new.now.trees
  pub committed : new.committed ≡ old.committed

-- ---- what a statement makes of the rows

-- the row of this key has lost its cells, if there is one
abbrev pub IsEmptied : LineKey → CellLines → CellLines → Type 0
IsEmptied key old new =
    (q : LineKey) → get new q
    ≡ cond (eq_by_cmp line_cmp key q) (option_map (λ l. (l.0, empty)) (get old q)) (get old q)

-- there was no row of this key, and now there is one of this version, without cells
abbrev pub IsRowBegun : LineKey → Uuid → CellLines → CellLines → Type 0
IsRowBegun key version old new = (get old key ≡ None) × (new ≡ insert old key (version, empty))

-- the row of this key, if there is one, has one more cell, of a column that had none
abbrev pub IsCellAdded : LineKey → List ℕ → List ℕ → CellLines → CellLines → Type 0
IsCellAdded key name body old new =
    (l : CellLine) → get old key ≡ Some l
    → (get l.1 name ≡ None) × (new ≡ insert old key (l.0, insert l.1 name body))

-- the row of this key, if there is one, has these cells more, one after the other, each of a column that had none
abbrev pub AreCellsAdded : LineKey → List (List ℕ × List ℕ) → CellLines → CellLines → Type 0
AreCellsAdded key [] old new = new ≡ old
AreCellsAdded key (c ∷ cs) old new =
    (mid : CellLines) × IsCellAdded key c.0 c.1 old mid × AreCellsAdded key cs mid new

-- the row of this key, if it had this version and no cells, has these cells
abbrev pub IsRefilled : LineKey → CellLine → CellLines → CellLines → Type 0
IsRefilled key line old new = get old key ≡ Some (line.0, empty) → new ≡ insert old key line

-- while the connection is open, there is a row of this key, with these cells
abbrev pub MayHave : LineKey → (CellLine → Type 0) → State → Type 0
MayHave key Has s =
    IsTrue s.is_open → (l : CellLine) × (get (stored_cells s.now.trees) key ≡ Some l) × Has l

-- while the connection is open, the row of this key has no cells, or there is none
abbrev pub MayBeEmpty : LineKey → State → Type 0
MayBeEmpty key s = IsTrue s.is_open → IfSome (get (stored_cells s.now.trees) key) (λ l. l.1 ≡ empty)

-- a rule of the tables refused the statement
abbrev pub IsRefusal : Error → Type 0
IsRefusal e = (rule : Constraint) × (e ≡ SqliteFailure (ConstraintViolation rule))

-- the rows became what f makes of them
abbrev pub Becomes : (CellLines → CellLines) → CellLines → CellLines → Type 0
Becomes f old new = new ≡ f old

-- the rows became what f makes of them, that is committed, and everything else is as it was
pub record Stores (text : List ℕ) (f : CellLines → CellLines) (old new : State) : Type 0 where
  pub was_open : IsTrue old.is_open
  pub is_open : IsTrue new.is_open
  pub was_settled : old.now ≡ old.committed
  pub is_settled : new.now ≡ new.committed
  pub stored : HoldsCells text new.now
  pub lines_are : stored_cells new.now.trees ≡ f (stored_cells old.now.trees)
  pub meta : rows_of_meta new.now.trees ≡ rows_of_meta old.now.trees
  pub others : KeepsOthers (row_trees old.now.schema) old.now.schema old.now.trees new.now.trees

-- what the commit writes to the disk, if it gets that far
pub record IsCommitImage (f : CellLines → CellLines) (old : State) (trees : Trees) : Type 0 where
  pub was_open : IsTrue old.is_open
  pub was_settled : old.now ≡ old.committed
  pub lines_are : stored_cells trees ≡ f (stored_cells old.now.trees)
  pub meta : rows_of_meta trees ≡ rows_of_meta old.now.trees
  pub others : KeepsOthers (row_trees old.now.schema) old.now.schema old.now.trees trees
