use Rattle.std.proofs.Common.{◌∙◌, sym, ap}
use Rattle.std.specs.FinMap.{from_entries}
use Rattle.sqlite.specs.Held.{state}
use Rattle.ov_tables.specs.Tables.{HasLineTables}
use Rattle.ov_sqlite.proofs.HeldLemmas.{lines_same}
use Rattle.ov_sqlite.proofs.EndingLemmas.{ends_read}
use Rattle.ov_sqlite.proofs.format.read_whole.Goals as goal

pub returns-in-Ok-Some-clause-reads : goal.returns-in-Ok-Some-clause-reads
returns-in-Ok-Some-clause-reads g c =
    let old = state g.S.Store c.args.conn.now in
    let mapped = rw (c.in-Ok-Some.field-0-is, c.as_slice.ensures.value) at c.in-Ok-Some.ensures in
    ends_read _
    (λ clean has.
    let it = c.in-Ok.ensures.reads.ok clean (λ up. (has up).line) in
    let lines : HasLineTables old.now.schema = has it.0 in
    let sound = (c.schema-schema.ensures.live it.0).0 in
    (it.0, (it.1.are, it.1.numbered, lines_same old.now _ lines.line sound it.1.are it.1.numbered c.in-Ok.rows.items it.1.same ∙ ap from_entries (sym mapped))))
    c.read_lines.ensures.reads.same c.read_lines.ensures.reads.survives
