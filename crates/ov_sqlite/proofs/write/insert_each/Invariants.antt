use Rattle.std.proofs.Common.{Ok, take, map}
use Rattle.ov_keeper.specs.Views.{cell_entry}
use Rattle.ov_sqlite.specs.Changing.{MayHave, MakesRows, AreCellsAdded}
use Rattle.ov_sqlite.specs.Writing.{WritesTables, MayHoldWith}
use Rattle.ov_sqlite.proofs.write.insert_each.Given as goal

-- this many cells were added
abbrev pub invariant-loop-cell : goal.invariant-loop-cell
invariant-loop-cell g l =
    WritesTables {T = Unit {0}} g.S.Store (Ok tt) (MayHoldWith (MayHave (l.fn.line.table, l.fn.line.id) (λ _. Unit {0})))
    (MakesRows (AreCellsAdded (l.fn.line.table, l.fn.line.id) (map cell_entry (take l.cell-index l.fn.cells)))) l.fn.tx.conn l.tx.conn
