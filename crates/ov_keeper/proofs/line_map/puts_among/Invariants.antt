use Rattle.std.proofs.Common.{◌≡◌, take}
use Rattle.ov_keeper.specs.LineMap.{room_for}
use Rattle.ov_keeper.specs.Views.{changes_view}
use Rattle.ov_keeper.proofs.line_map.puts_among.Given as goal

abbrev pub invariant-loop-change : goal.invariant-loop-change
invariant-loop-change l = l.puts ≡ room_for (changes_view (take l.change-index l.changes))
