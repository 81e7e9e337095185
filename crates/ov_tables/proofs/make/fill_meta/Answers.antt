use Rattle.std.proofs.Common.{◌∙◌, sym, subst, arith, IsUtf8}
use Rattle.sqlite.specs.State.{HasCleanDisk}
use Rattle.sqlite.specs.Held.{state}
use Rattle.ov_tables.specs.Tables.{HasCellTables}
use Rattle.ov_tables.proofs.KeepLemmas.{on_ok}
use Rattle.ov_tables.proofs.MetaLemmas.{fills}
use Rattle.ov_tables.proofs.make.fill_meta.Goals as goal

pub returns-clause-ok : goal.returns-clause-ok
returns-clause-ok g c clean mode may =
    let old = state g.S.Store c.args.tx.now.conn.now in
    let mid = state g.S.Store c.insert_meta.new.tx.conn.now in
    let new = state g.S.Store c.insert_meta-2.new.tx.conn.now in
    let early : HasCleanDisk mid = omega (arith, c.insert_meta-2.ensures.survives.clean) in
    let one = c.in_ok-insert_meta.ensures.ok early mode (λ up. let it = may up in (it.tables, it.sound)) in
    let bare = may one.was_open in
    let utf8 = subst IsUtf8 (c.as_bytes.ensures.value ∙ c.as_str.ensures) c.as_bytes.ensures.utf8 in
    on_ok c.insert_meta-2.result ((rw (c.as_bytes.ensures.value, c.as_str.ensures) at c.insert_meta-2.ensures.ok) clean one.mode (λ _. (subst HasCellTables (sym one.schema) bare.tables, one.sound)))
    (λ two. fills c.args.schema.now old mid new utf8 bare one two)
