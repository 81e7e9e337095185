use Rattle.std.proofs.Common.{take}
use Rattle.std.specs.List.{AllByRecursion}
use Rattle.ov_tables.specs.Format.{IsLine}
use Rattle.ov_sqlite.proofs.rows.are_lines.Given as goal

abbrev pub invariant-loop-row : goal.invariant-loop-row
invariant-loop-row l = AllByRecursion IsLine (take l.row-index l.rows)
