use Rattle.sqlite.specs.Held.{state}
use Rattle.ov_sqlite.proofs.ChangeLemmas.{cell_updated}
use Rattle.ov_sqlite.proofs.WritingLemmas.{writes_by}
use Rattle.ov_sqlite.proofs.renew.update_cell.Goals as goal

pub returns : goal.returns
returns g c =
    let old = state g.S.Store c.args.tx.now.conn.now in
    let new = state g.S.Store c.execute.new.self.conn.now in
    let line = c.args.line.now in
    let cell = c.args.cell.now in
    record {
      writes = writes_by _ _ _ _ c.execute.ensures.same_reference c.in_ok-execute.ensures.runs c.execute.ensures.survives
          (λ text may ran. cell_updated text old new (may ran.1.was_open) ran.1.mode ran.1.was_open ran.1.committed_is (line.table, line.id) c.in_ok-execute.field-0 cell.column cell.body
          (rw (c.as_bytes.ensures.value, c.as_str.ensures, c.id_bytes.ensures.bytes, c.as_bytes-2.ensures.value, c.as_str-2.ensures, c.as_slice.ensures) at ran.0));
    }
