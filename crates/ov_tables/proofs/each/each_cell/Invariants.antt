use Rattle.std.proofs.Common.{◌≡◌, List, [], false}
use Rattle.sqlite.specs.Order.{Row}
use Rattle.sqlite.specs.State.{HasCleanDisk, IsUnchanged, Survives}
use Rattle.sqlite.specs.Held.{state}
use Rattle.sqlite.specs.Given.{HasGiven}
use Rattle.ov_tables.specs.Tables.{cell_select_text}
use Rattle.ov_tables.proofs.each.each_cell.Given as goal

abbrev pub invariant-rows : goal.invariant-rows
invariant-rows g l =
    let old = state g.S.Store l.fn.conn in
    let now = state g.S.Store l.rows.conn.now in
    record {
      same_reference : l.rows.conn.ghost_name ≡ l.initial.rows.conn.ghost_name;
      mode : l.rows.conn.now.in_transaction ≡ false;
      survives : Survives old now (λ _. ⊥);
      given : HasCleanDisk now → (given : List Row) × HasGiven g.S.Store cell_select_text [] l.rows.conn.now given × IsUnchanged old now × g.T.TakesRows.has_taken l.fn.taker l.taker given;
    }
