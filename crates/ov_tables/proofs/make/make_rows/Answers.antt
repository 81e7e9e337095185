use Rattle.std.proofs.Common.{arith}
use Rattle.sqlite.specs.State.{HasCleanDisk}
use Rattle.sqlite.specs.Held.{state}
use Rattle.ov_tables.proofs.KeepLemmas.{on_ok}
use Rattle.ov_tables.proofs.CreateLemmas.{room_for_cell, both_created}
use Rattle.ov_tables.proofs.make.make_rows.Goals as goal

pub returns-clause-ok : goal.returns-clause-ok
returns-clause-ok g c clean mode may =
    let old = state g.S.Store c.args.tx.now.conn.now in
    let mid = state g.S.Store c.make_head.new.tx.conn.now in
    let new = state g.S.Store c.make_cell.new.tx.conn.now in
    let early : HasCleanDisk mid = omega (arith, c.make_cell.ensures.survives.clean) in
    let head = c.in_ok-make_head.ensures.ok early mode (λ up. let it = may up in (it.0, it.2, it.3)) in
    let it = may head.was_open in
    let room = room_for_cell old mid it.1 it.2 head in
    on_ok c.make_cell.result (c.make_cell.ensures.ok clean head.mode (λ _. (room.0, room.1, head.sound))) (λ cell. both_created old mid new head cell)
