use Rattle.std.proofs.Common.{◌<◌, List, subst, map, length}
use Rattle.std.specs.FinMap.{insert, from_entries}
use Rattle.sqlite.specs.Order.{Row}
use Rattle.sqlite.specs.Held.{state}
use Rattle.ov_specs.specs.rows.Lines.{LineKey}
use Rattle.ov_keeper.specs.Views.{cells_view}
use Rattle.ov_tables.specs.Holding.{MayHoldCells}
use Rattle.ov_tables.specs.Querying.{ReadsKey}
use Rattle.ov_sqlite.specs.Changing.{MakesRows, Becomes}
use Rattle.ov_sqlite.specs.Writing.{WritesTables}
use Rattle.ov_sqlite.specs.Renewing.{shown_entry}
use Rattle.ov_sqlite.proofs.RunLemmas.{makes_same, may_same}
use Rattle.ov_sqlite.proofs.UpdatingLemmas.{Puts, put_after_reading}
use Rattle.ov_sqlite.proofs.PlaceLemmas.{renewed_row}
use Rattle.ov_sqlite.proofs.WritingLemmas.{opened_first, writes_after, rows_then}
use Rattle.ov_sqlite.proofs.write.update_row.Goals as goal

pub returns-then-not-are_of : goal.returns-then-not-are_of
returns-then-not-are_of g c =
    let old = state g.S.Store c.args.tx.now.conn.now in
    let mid = state g.S.Store c.cells_of.new.tx.conn.now in
    let new = state g.S.Store c.replace_row.new.tx.conn.now in
    let line = c.args.line.now in
    let k : LineKey = (line.table, line.id) in
    let row = c.replace_row.ensures.writes.tables in
    record {
      writes = record {
        tables = writes_after c.replace_row.result c.cells_of.ensures.same_reference c.in_ok-rows.ensures.goes_on c.cells_of.ensures.kept c.cells_of.ensures.survives row
            (λ text clean mode may.
            let same = (c.in_ok-rows.ensures.cells clean mode text may).same in
            (text, may_same text old mid same may, makes_same text (Becomes (λ m. insert m k (line.version, cells_view line.cells.items))) old mid new same));
        opened = opened_first old mid new c.replace_row.result c.in_ok-rows.ensures.opened row.survives;
      };
    }

pub returns : goal.returns
returns g c =
    let old = state g.S.Store c.args.tx.now.conn.now in
    let read = state g.S.Store c.cells_of.new.tx.conn.now in
    let new = state g.S.Store c.update_cells.new.tx.conn.now in
    let line = c.args.line.now in
    let rows = c.in_ok-rows.rows.items in
    let k : LineKey = (line.table, line.id) in
    let all = cells_view line.cells.items in
    let put : WritesTables g.S.Store c.update_cells.result MayHoldCells (MakesRows (Puts k line.version all rows)) c.cells_of.new.tx.conn c.update_cells.new.tx.conn =
    rows_then c.update_cells.result c.in_ok-update_head.ensures.writes (rw c.as_slice-3.ensures.value at c.update_cells.ensures.writes) (λ text may made. made.stored)
    (λ a b d first then u there. renewed_row k line.version u (from_entries (map shown_entry rows)) all a b d there first then) in
    let some : 0 < length rows = subst (λ (xs : List Row). 0 < length xs) c.as_slice.ensures.value (c.are_of.ensures.some c.if-not-are_of.false) in
    record {
      writes = record {
        tables = writes_after c.update_cells.result c.cells_of.ensures.same_reference c.in_ok-rows.ensures.goes_on c.cells_of.ensures.kept c.cells_of.ensures.survives put
            (λ text clean mode may.
            let found : ReadsKey k rows old read = (rw (c.as_str.ensures, c.id_bytes.ensures.bytes) at c.in_ok-rows.ensures.cells) clean mode text may in
            let both = put_after_reading k line.version all rows text old read new some found may in
            (text, both.0, both.1));
        opened = opened_first old read new c.update_cells.result c.in_ok-rows.ensures.opened put.survives;
      };
    }
