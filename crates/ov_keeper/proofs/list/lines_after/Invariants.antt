use Rattle.std.proofs.Common.{◌≡◌, take}
use Rattle.std.specs.FinMap.{empty}
use Rattle.ov_specs.specs.rows.Cells.{after_cell_changes}
use Rattle.ov_keeper.specs.ListKeeper.{lines_of}
use Rattle.ov_keeper.specs.Views.{changes_view}
use Rattle.ov_keeper.proofs.list.lines_after.Given as goal

abbrev pub invariant-loop-change : goal.invariant-loop-change
invariant-loop-change l = lines_of l.lines.items ≡ after_cell_changes (changes_view (take l.change-index l.changes)) empty
