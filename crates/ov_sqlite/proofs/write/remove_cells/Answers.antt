use Rattle.sqlite.specs.Held.{state}
use Rattle.ov_sqlite.proofs.ChangeLemmas.{cells_removed}
use Rattle.ov_sqlite.proofs.WritingLemmas.{writes_by}
use Rattle.ov_sqlite.proofs.write.remove_cells.Goals as goal

pub returns : goal.returns
returns g c =
    let old = state g.S.Store c.args.tx.now.conn.now in
    let new = state g.S.Store c.execute.new.self.conn.now in
    record {
      writes = record {
        tables = writes_by _ _ _ _ c.execute.ensures.same_reference c.in_ok-execute.ensures.runs c.execute.ensures.survives
            (λ text may ran. cells_removed text old new (may ran.1.was_open) ran.1.mode ran.1.was_open ran.1.committed_is (c.args.table.now, c.args.id) c.in_ok-execute.field-0 (rw (c.as_bytes.ensures.value, c.as_bytes-2.ensures) at ran.0));
        opened = λ clean mode. (c.in_ok-execute.ensures.runs clean mode).1.was_open;
      };
    }
