use Rattle.std.proofs.Common.{Ok, map}
use Rattle.std.specs.FinMap.{from_entries}
use Rattle.ov_tables.specs.Holding.{MayHoldCells}
use Rattle.ov_sqlite.specs.Changing.{MakesRows}
use Rattle.ov_sqlite.specs.Writing.{WritesTables}
use Rattle.ov_sqlite.specs.Renewing.{shown_entry, IsChangedInPlace}
use Rattle.ov_sqlite.proofs.PlaceLemmas.{mixed}
use Rattle.ov_sqlite.proofs.renew.update_cells.Given as goal

-- the first cells got their bodies
abbrev pub invariant-loop-at : goal.invariant-loop-at
invariant-loop-at g l =
    WritesTables {T = Unit {0}} g.S.Store (Ok tt) MayHoldCells
    (MakesRows (IsChangedInPlace (l.fn.line.table, l.fn.line.id) (l.fn.line.version, from_entries (map shown_entry l.fn.rows)) (l.fn.line.version, from_entries (mixed l.at l.fn.line.cells.items l.fn.rows)))) l.fn.tx.conn l.tx.conn
