use Rattle.sqlite.specs.Held.{state}
use Rattle.ov_specs.specs.rows.Lines.{LineKey}
use Rattle.ov_sqlite.proofs.RefillLemmas.{is_empty, gone_after}
use Rattle.ov_sqlite.proofs.WritingLemmas.{opened_first, rows_then}
use Rattle.ov_sqlite.proofs.write.remove_row.Goals as goal

pub returns : goal.returns
returns g c =
    let k : LineKey = (c.args.table.now, c.args.id) in
    let old = state g.S.Store c.args.tx.now.conn.now in
    let mid = state g.S.Store c.remove_cells.new.tx.conn.now in
    let new = state g.S.Store c.remove_head.new.tx.conn.now in
    let cells = c.in_ok-remove_cells.ensures.writes in
    let head = c.remove_head.ensures.writes in
    record {
      writes = record {
        tables = rows_then c.remove_head.result cells.tables head (λ text may made. (made.stored, λ up. is_empty k _ _ made.lines_are)) (gone_after k);
        opened = opened_first old mid new c.remove_head.result cells.opened head.survives;
      };
    }
