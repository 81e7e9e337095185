use Rattle.std.proofs.Common.{◌≡◌, ◌++◌, map}
use Rattle.ov_keeper.specs.Views.{cell_line_entry}
use Rattle.ov_keeper.proofs.line_map.LineMap.copies.Given as goal

abbrev pub invariant-loop-key : goal.invariant-loop-key
invariant-loop-key l = map cell_line_entry l.lines.items ++ l.key-iterator ≡ l.initial.key-iterator
