use Rattle.std.proofs.Common.{Ok, ◌≤◌, ◌-◌, take, map, length}
use Rattle.ov_keeper.specs.Views.{cell_entry}
use Rattle.ov_sqlite.specs.Changing.{MayHave, MakesRows, AreCellsAdded}
use Rattle.ov_sqlite.specs.Writing.{WritesTables, MayHoldWith}
use Rattle.ov_sqlite.proofs.write.insert_cells.Given as goal

-- this many cells were added
abbrev pub invariant-loop-done : goal.invariant-loop-done
invariant-loop-done g l = record {
  within : l.done ≤ length l.fn.line.cells.items;
  writes : WritesTables {T = Unit {0}} g.S.Store (Ok tt) (MayHoldWith (MayHave (l.fn.line.table, l.fn.line.id) (λ _. Unit {0})))
      (MakesRows (AreCellsAdded (l.fn.line.table, l.fn.line.id) (map cell_entry (take l.done l.fn.line.cells.items)))) l.fn.tx.conn l.tx.conn;
}

abbrev pub decreases-loop-done : goal.decreases-loop-done
decreases-loop-done g l = length l.fn.line.cells.items - l.done
