use Rattle.std.proofs.Common.{take}
use Rattle.ov_sqlite.specs.Renewing.{AreOfColumns}
use Rattle.ov_sqlite.proofs.renew.have_columns.Given as goal

abbrev pub invariant-loop-at : goal.invariant-loop-at
invariant-loop-at l = AreOfColumns (take l.at l.rows) (take l.at l.cells)
