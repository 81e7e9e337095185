-- A database while tables of stored format 2 are being made or emptied.
use Rattle.std.specs.Prelude.{◌≡◌, ℕ, ℤ, List, [], ◌∷◌, IsTrue, true, false, codes}
use Rattle.sqlite.specs.declared.types.Value.TheVariants.{Int, Text, Blob}
use Rattle.sqlite_trees.specs.Tree.{put_row}
use Rattle.sqlite_rules.specs.Edit.{are_fresh}
use Rattle.sqlite.specs.Order.{Row}
use Rattle.sqlite.specs.Table.{Table}
use Rattle.sqlite.specs.Change.{created, next_tree, KeepsRows}
use Rattle.sqlite.specs.Does.{lacks_sequence}
use Rattle.sqlite.specs.Effect.{Database, IsDatabase}
use Rattle.sqlite.specs.State.{State}
use Rattle.sqlite.specs.Tree.{Trees}
use Rattle.ov_tables.specs.Tables.{tree_number, with_row_tables, with_ours, head_table, HasFreeNames, HasFreeName, HasCellTables}
use Rattle.ov_tables.specs.Format.{rows_of_meta, rows_of_head, rows_of_cell}
use Rattle.ov_tables.specs.Holding.{HoldsCells, KeepsOthers}

-- while the connection is open, there is room for the tables of stored format 2, and its trees obey its schema
abbrev pub MayMake : State → Type 0
MayMake s = IsTrue s.is_open → HasFreeNames s.now.schema × IsDatabase s.now

-- the same for a table of this name
abbrev pub MayCreate : List ℕ → State → Type 0
MayCreate name s =
    IsTrue s.is_open
    → HasFreeName s.now.schema name × (lacks_sequence s.now.schema ≡ false) × IsDatabase s.now

-- a table was made after everything that was there, with no rows
pub record Creates (table : Table) (old new : State) : Type 0 where
  pub mode : IsTrue new.in_transaction
  pub was_open : IsTrue old.is_open
  pub is_open : IsTrue new.is_open
  pub schema : new.now.schema ≡ created old.now.schema table
  pub empty : new.now.trees (next_tree old.now.schema) ≡ []
  pub others : KeepsRows old.now.schema.tables old.now.trees new.now.trees
  pub sound : IsDatabase new.now

-- while the connection is open, there is room for `head` and `cell`
abbrev pub MayCreateRows : State → Type 0
MayCreateRows s =
    IsTrue s.is_open
    → HasFreeName s.now.schema (codes "head") × HasFreeName s.now.schema (codes "cell")
    × (lacks_sequence s.now.schema ≡ false) × IsDatabase s.now

-- both were made so
pub record CreatesRows (old new : State) : Type 0 where
  pub mode : IsTrue new.in_transaction
  pub was_open : IsTrue old.is_open
  pub is_open : IsTrue new.is_open
  pub schema : new.now.schema ≡ with_row_tables old.now.schema
  pub head : new.now.trees (next_tree old.now.schema) ≡ []
  pub cell : new.now.trees (next_tree (created old.now.schema (head_table 0))) ≡ []
  pub others : KeepsRows old.now.schema.tables old.now.trees new.now.trees
  pub sound : IsDatabase new.now

-- the three tables of stored format 2 are there, and have no rows
pub record IsBare (db : Database) : Type 0 where
  pub tables : HasCellTables db.schema
  pub meta : rows_of_meta db.trees ≡ []
  pub head : rows_of_head db.trees ≡ []
  pub cell : rows_of_cell db.trees ≡ []
  pub sound : IsDatabase db

-- while the connection is open they are so
abbrev pub MayBeBare : State → Type 0
MayBeBare s = IsTrue s.is_open → IsBare s.now

-- the three tables were made after everything that was there
pub record MakesOurs (old new : State) : Type 0 where
  pub mode : IsTrue new.in_transaction
  pub was_open : IsTrue old.is_open
  pub is_open : IsTrue new.is_open
  pub bare : IsBare new.now
  pub meta_tree : tree_number new.now.schema (codes "meta") ≡ next_tree old.now.schema
  pub schema : new.now.schema ≡ with_ours old.now.schema
  pub others : KeepsRows old.now.schema.tables old.now.trees new.now.trees

-- a row of `meta` with its number
abbrev pub meta_row : List ℕ → List ℕ → ℤ → Row
meta_row k v n = Int n ∷ Text k ∷ Blob v ∷ []

-- while the connection is open, the three tables are there
abbrev pub MayHaveCells : State → Type 0
MayHaveCells s = IsTrue s.is_open → HasCellTables s.now.schema × IsDatabase s.now

-- a row with a new number was added to `meta`, and nothing else has changed
pub record AddsMeta (k v : List ℕ) (old new : State) : Type 0 where
  pub mode : IsTrue new.in_transaction
  pub was_open : IsTrue old.is_open
  pub is_open : IsTrue new.is_open
  pub schema : new.now.schema ≡ old.now.schema
  pub number : ℤ
  pub rows : rows_of_meta new.now.trees ≡ put_row (meta_row k v number) (rows_of_meta old.now.trees)
  pub fresh : are_fresh (rows_of_meta old.now.trees) (meta_row k v number ∷ []) ≡ true
  pub head : rows_of_head new.now.trees ≡ rows_of_head old.now.trees
  pub cell : rows_of_cell new.now.trees ≡ rows_of_cell old.now.trees
  pub others : KeepsOthers (tree_number old.now.schema (codes "meta") ∷ []) old.now.schema
      old.now.trees new.now.trees
  pub sound : IsDatabase new.now

-- `meta` was filled
pub record Fills (text : List ℕ) (old new : State) : Type 0 where
  pub mode : IsTrue new.in_transaction
  pub was_open : IsTrue old.is_open
  pub is_open : IsTrue new.is_open
  pub schema : new.now.schema ≡ old.now.schema
  pub stored : HoldsCells text new.now
  pub no_head : rows_of_head new.now.trees ≡ []
  pub no_cell : rows_of_cell new.now.trees ≡ []
  pub others : KeepsOthers (tree_number old.now.schema (codes "meta") ∷ []) old.now.schema
      old.now.trees new.now.trees

-- the three tables were made and filled so
pub record MakesFilled (text : List ℕ) (old new : State) : Type 0 where
  pub mode : IsTrue new.in_transaction
  pub was_open : IsTrue old.is_open
  pub is_open : IsTrue new.is_open
  pub stored : HoldsCells text new.now
  pub no_head : rows_of_head new.now.trees ≡ []
  pub no_cell : rows_of_cell new.now.trees ≡ []
  pub schema : new.now.schema ≡ with_ours old.now.schema
  pub others : KeepsRows old.now.schema.tables old.now.trees new.now.trees

-- a database of stored format 2 with this text and no rows
pub record IsNewDatabase (text : List ℕ) (db : Database) : Type 0 where
  pub stored : HoldsCells text db
  pub no_head : rows_of_head db.trees ≡ []
  pub no_cell : rows_of_cell db.trees ≡ []

-- what the commit of a new database writes to the disk, if it gets that far: the whole of it
pub record IsNewFile (text : List ℕ) (trees : Trees) : Type 0 where
  pub db : Database
  pub trees_are : trees ≡ db.trees
  pub new : IsNewDatabase text db

-- the same if something was there already: the tables come after all of it, and every other table has its rows
pub record IsNewBeside (text : List ℕ) (old : State) (trees : Trees) : Type 0 where
  pub was_open : IsTrue old.is_open
  pub was_settled : old.now ≡ old.committed
  pub file : IsNewFile text trees
  pub schema : file.db.schema ≡ with_ours old.now.schema
  pub others : KeepsRows old.now.schema.tables old.now.trees trees

-- the tables are made after everything that was there, in stored format 2 with no rows, and an open finds exactly that
pub record IsNew (text : List ℕ) (old new : State) : Type 0 where
  pub was_open : IsTrue old.is_open
  pub was_settled : old.now ≡ old.committed
  pub is_open : IsTrue new.is_open
  pub settled : new.now ≡ new.committed
  pub schema : new.now.schema ≡ with_ours old.now.schema
  pub others : KeepsRows old.now.schema.tables old.now.trees new.now.trees
  pub stored : HoldsCells text new.now
  pub no_head : rows_of_head new.now.trees ≡ []
  pub no_cell : rows_of_cell new.now.trees ≡ []
