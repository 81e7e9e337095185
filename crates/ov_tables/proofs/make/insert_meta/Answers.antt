use Rattle.sqlite.specs.Held.{state}
use Rattle.ov_tables.proofs.MetaLemmas.{adds_meta}
use Rattle.ov_tables.proofs.KeepLemmas.{execute_keeps}
use Rattle.ov_tables.proofs.make.insert_meta.Goals as goal

pub returns-clause-ok : goal.returns-clause-ok
returns-clause-ok g c clean mode may =
    let old = state g.S.Store c.args.tx.now.conn.now in
    let new = state g.S.Store c.execute.new.self.conn.now in
    let ran = c.in_ok-execute.ensures.runs clean mode in
    let it = may ran.1.was_open in
    adds_meta old new c.args.key.now c.args.value.now c.in_ok-execute.field-0 it.0 it.1 (rw c.as_bytes.ensures.value at ran.0) ran.1.mode ran.1.was_open ran.1.is_open

pub returns-clause-kept : goal.returns-clause-kept
returns-clause-kept g c clean = execute_keeps g.S.Store _ _ _ _ _ (c.execute.ensures.runs clean) c.execute.ensures.ended
