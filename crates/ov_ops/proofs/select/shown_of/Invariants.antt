use Rattle.std.proofs.Common.{◌≡◌, ◌++◌, drop, map}
use Rattle.ov_ops.specs.Shown.{shown_of}
use Rattle.ov_ops.proofs.select.shown_of.Given as goal

abbrev pub invariant-loop-row : goal.invariant-loop-row
invariant-loop-row l = map (shown_of l.names) l.rows ≡ l.shown.items ++ map (shown_of l.names) (drop l.row-index l.rows)
