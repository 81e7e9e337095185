use Rattle.std.proofs.Common.{◌≡◌, take, map}
use Rattle.ov_keeper.specs.Views.{line_entry}
use Rattle.ov_tables.specs.Format.{entry}
use Rattle.ov_sqlite.proofs.format.lines_of.Given as goal

abbrev pub invariant-loop-row : goal.invariant-loop-row
invariant-loop-row l = map line_entry l.lines.items ≡ map entry (take l.row-index l.rows)
