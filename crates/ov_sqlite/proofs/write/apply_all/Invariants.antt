use Rattle.std.proofs.Common.{Ok, ◌<◌, take, IsTrue}
use Rattle.sqlite.specs.State.{HasCleanDisk}
use Rattle.sqlite.specs.Held.{state}
use Rattle.ov_specs.specs.rows.Cells.{after_cell_changes}
use Rattle.ov_keeper.specs.Views.{changes_view}
use Rattle.ov_tables.specs.Holding.{MayHoldCells}
use Rattle.ov_sqlite.specs.Changing.{MakesRows, Becomes}
use Rattle.ov_sqlite.specs.Writing.{WritesTables}
use Rattle.ov_sqlite.proofs.write.apply_all.Given as goal

-- this many changes were made
abbrev pub invariant-loop-change : goal.invariant-loop-change
invariant-loop-change g l =
    let old = state g.S.Store l.fn.tx.conn.now in
    record {
      writes : WritesTables {T = Unit {0}} g.S.Store (Ok tt) MayHoldCells (MakesRows (Becomes (after_cell_changes (changes_view (take l.change-index l.changes))))) l.fn.tx.conn l.tx.conn;
      opened : HasCleanDisk (state g.S.Store l.tx.conn.now) → IsTrue old.in_transaction → 0 < l.change-index → IsTrue old.is_open;
    }
