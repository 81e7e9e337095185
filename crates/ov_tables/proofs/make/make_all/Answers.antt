use Rattle.std.proofs.Common.{arith}
use Rattle.sqlite.specs.State.{HasCleanDisk}
use Rattle.sqlite.specs.Held.{state}
use Rattle.ov_tables.proofs.KeepLemmas.{on_ok}
use Rattle.ov_tables.proofs.CreateLemmas.{room_for_rows, ours_made, filled}
use Rattle.ov_tables.proofs.make.make_all.Goals as goal

pub returns-clause-ok : goal.returns-clause-ok
returns-clause-ok g c clean mode may =
    let old = state g.S.Store c.args.tx.now.conn.now in
    let one = state g.S.Store c.make_meta.new.tx.conn.now in
    let two = state g.S.Store c.make_rows.new.tx.conn.now in
    let new = state g.S.Store c.fill_meta.new.tx.conn.now in
    let late : HasCleanDisk two = omega (arith, c.fill_meta.ensures.survives.clean) in
    let early : HasCleanDisk one = omega (arith, c.make_rows.ensures.survives.clean) in
    let meta = c.in_ok-make_meta.ensures.ok early mode (λ up. let it = may up in (it.0.meta, it.0.counts, it.1)) in
    let it = may meta.was_open in
    let rows = c.in_ok-make_rows.ensures.ok late meta.mode (λ _. room_for_rows old one it.0 meta) in
    let ours = ours_made old one two it.0 it.1 meta rows in
    on_ok c.fill_meta.result (c.fill_meta.ensures.ok clean ours.mode (λ _. ours.bare)) (λ done. filled c.args.schema.now old two new ours done)
