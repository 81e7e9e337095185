use Rattle.sqlite.specs.Held.{state}
use Rattle.ov_tables.proofs.CreateLemmas.{creates_head}
use Rattle.ov_tables.proofs.KeepLemmas.{execute_keeps}
use Rattle.ov_tables.proofs.make.make_head.Goals as goal

pub returns-clause-ok : goal.returns-clause-ok
returns-clause-ok g c clean mode may =
    let ran = c.in_ok-execute.ensures.runs clean mode in
    let it = may ran.1.was_open in
    let d = creates_head (state g.S.Store c.args.tx.now.conn.now) (state g.S.Store c.execute.new.self.conn.now) c.in_ok-execute.field-0 it.1 it.0 ran.0 in
    record { mode = ran.1.mode; was_open = ran.1.was_open; is_open = ran.1.is_open; schema = d.schema; empty = d.empty; others = d.others; sound = d.sound }

pub returns-clause-kept : goal.returns-clause-kept
returns-clause-kept g c clean = execute_keeps g.S.Store _ _ _ _ _ (c.execute.ensures.runs clean) c.execute.ensures.ended
