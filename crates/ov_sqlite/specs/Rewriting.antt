-- A rewrite: another text of the schema and other rows take the place of those that are stored, in format 2.
use Rattle.std.specs.Prelude.{◌≡◌, ℕ, List, IsTrue}
use Rattle.sqlite.specs.Tree.{Trees}
use Rattle.sqlite.specs.State.{State}
use Rattle.ov_specs.specs.rows.Cells.{CellLines}
use Rattle.ov_tables.specs.Format.{IsMeta, stored_cells, rows_of_meta}
use Rattle.ov_tables.specs.Holding.{HoldsCells, MayHoldCells}
use Rattle.ov_tables.specs.Emptying.{KeepsRest}

-- in a transaction that goes on, the schema has this text, and the rows are these
pub record Remakes (text : List ℕ) (lines : CellLines) (old new : State) : Type 0 where
  pub mode : IsTrue new.in_transaction
  pub was_open : IsTrue old.is_open
  pub stored : MayHoldCells text new
  pub meta : IsMeta 2 text (rows_of_meta new.now.trees)
  pub lines_are : stored_cells new.now.trees ≡ lines
  pub others : KeepsRest old.now.schema old.now.trees new.now.trees

-- the schema's text and the rows are committed
pub record Rewrites (text : List ℕ) (lines : CellLines) (old new : State) : Type 0 where
  pub was_open : IsTrue old.is_open
  pub is_open : IsTrue new.is_open
  pub was_settled : old.now ≡ old.committed
  pub is_settled : new.now ≡ new.committed
  pub stored : HoldsCells text new.now
  pub lines_are : stored_cells new.now.trees ≡ lines
  pub others : KeepsRest old.now.schema old.now.trees new.now.trees

-- what the commit of a rewrite writes to the disk, if it gets that far
pub record IsRewriteImage (text : List ℕ) (lines : CellLines) (old : State) (trees : Trees)
    : Type 0 where
  pub was_open : IsTrue old.is_open
  pub was_settled : old.now ≡ old.committed
  pub meta : IsMeta 2 text (rows_of_meta trees)
  pub lines_are : stored_cells trees ≡ lines
  pub others : KeepsRest old.now.schema old.now.trees trees
