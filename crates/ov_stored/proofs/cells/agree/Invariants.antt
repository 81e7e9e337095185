use Rattle.std.proofs.Common.{◌≡◌, drop, map}
use Rattle.ov_keeper.specs.Views.{cell_entry, cells_view}
use Rattle.ov_stored.specs.CellLists.{agree}
use Rattle.ov_stored.proofs.cells.agree.Given as goal

abbrev pub invariant-loop-cell : goal.invariant-loop-cell
invariant-loop-cell l =
    agree (cells_view l.cells) (cells_view l.others) (map cell_entry l.cells) ≡ agree (cells_view l.cells) (cells_view l.others) (map cell_entry (drop l.cell-index l.cells))
