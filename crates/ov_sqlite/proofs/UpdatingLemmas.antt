-- A row whose cells were read, and which then was changed in place, was put.
use Rattle.std.proofs.Common.{◌≡◌, ◌<◌, ◌∙◌, ℕ, List, Some, ap, map, length}
use Rattle.std.specs.FinMap.{get, insert, from_entries}
use Rattle.sqlite.specs.Order.{Row}
use Rattle.sqlite.specs.Effect.{Database}
use Rattle.sqlite.specs.State.{State}
use Rattle.ov_specs.specs.rows.Lines.{LineKey}
use Rattle.ov_specs.specs.rows.Cells.{Cells, CellLines}
use Rattle.ov_specs.specs.values.Uuid.{Uuid}
use Rattle.ov_tables.specs.Format.{stored_cells}
use Rattle.ov_tables.specs.Holding.{MayHoldCells}
use Rattle.ov_tables.specs.Querying.{ReadsKey}
use Rattle.ov_sqlite.specs.Changing.{MakesRows, Becomes}
use Rattle.ov_sqlite.specs.Renewing.{shown_entry}
use Rattle.ov_sqlite.proofs.RunLemmas.{makes_weaker, makes_same, may_same}
use Rattle.ov_sqlite.proofs.InPlaceLemmas.{row_read}

module _ (key : LineKey) (version : Uuid) (cells : Cells) (rows : List Row) where
  -- the row, if it has the cells that were read, has this version and these cells
  abbrev pub Puts : CellLines → CellLines → Type 0
  Puts old new =
      (former : Uuid) → get old key ≡ Some (former, from_entries (map shown_entry rows))
      → new ≡ insert old key (version, cells)

  pub put_after_reading : (text : List ℕ) (old read new : State) → 0 < length rows
      → ReadsKey key rows old read → MayHoldCells text old
      → MayHoldCells text read
      × (MakesRows Puts text read new → MakesRows (Becomes (λ m. insert m key (version, cells))) text old new)
  put_after_reading text old read new some found may =
      let same = found.same in
      let row = row_read text old.now (may same.0.was_open) key rows found.cells some in
      let there = ap (λ (d : Database). get (stored_cells d.trees) key) same.0.now_is ∙ row.1 in (
        may_same text old read same may,
        λ made. makes_same text (Becomes (λ m. insert m key (version, cells))) old read new same
            (makes_weaker text Puts (Becomes (λ m. insert m key (version, cells))) read new (λ is. is row.0 there) made),
      )
