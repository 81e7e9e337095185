use Rattle.std.proofs.Common.{◌≡◌, ◌≤◌, length, reverse}
use Rattle.ov_specs.specs.rows.Cells.{after_cell_changes}
use Rattle.ov_keeper.specs.LineMap.{lines_in, spare_in, room_for}
use Rattle.ov_keeper.specs.Views.{changes_view}
use Rattle.ov_keeper.proofs.line_map.LineMap.make_all.Given as goal

abbrev pub invariant-loop-change : goal.invariant-loop-change
invariant-loop-change l = record {
  room : room_for (changes_view l.changes.items) ≤ spare_in l.self;
  made : after_cell_changes (changes_view (reverse l.changes.items)) (lines_in l.self) ≡ after_cell_changes (changes_view (reverse l.fn.changes.items)) (lines_in l.fn.self);
}

abbrev pub decreases-loop-change : goal.decreases-loop-change
decreases-loop-change l = length l.changes.items
