use Rattle.std.proofs.Common.{sym, ap, subst, arith, true, false, rules}
use Rattle.sqlite.specs.Effect.{Database}
use Rattle.sqlite.specs.State.{HasCleanDisk}
use Rattle.sqlite.specs.Held.{state}
use Rattle.ov_tables.specs.Tables.{HasCellTables}
use Rattle.ov_tables.specs.Format.{rows_of_head}
use Rattle.ov_sqlite.specs.Joined.{HasJoined, HasRefused}
use Rattle.ov_sqlite.specs.Reading.{ReadsHeads}
use Rattle.ov_sqlite.proofs.ReadLemmas.{gives_at, all_joined, one_refused}
use Rattle.ov_sqlite.proofs.EndingLemmas.{ends_read, ends_malformed}
use Rattle.ov_sqlite.proofs.format.read_joined.Goals as goal

pub returns-in-Ok-true-clause-reads : goal.returns-in-Ok-true-clause-reads
returns-in-Ok-true-clause-reads g c =
    let old = state g.S.Store c.args.conn.now in
    let mid = state g.S.Store c.read_bare_lines.new.conn in
    let first = c.new-joining.result in
    let now = c.each_cell.new.taker in
    ends_read _
    (λ clean has.
    let middle : HasCleanDisk mid = omega (arith, c.each_cell.ensures.survives.clean) in
    let same = c.read_bare_lines.ensures.reads.same middle in
    let heads = c.in-Ok.ensures.reads.ok middle (λ up. (has up).head) in
    let cells = c.in-Ok-true.ensures.rows clean (λ up. (subst HasCellTables (sym (ap (λ (d : Database). d.schema) (same.now up))) (has (same.was_open up))).cell) in
    let up = heads.0 in
    let bare = subst (ReadsHeads (rows_of_head old.now.trees)) (ap (λ v. v.items) (sym c.new-joining.ensures.lines)) heads.1 in
    let gives = gives_at (HasJoined first now) (HasRefused first now) c.in-Ok-true.field-0 true mid.now old.now c.in-Ok-true.field-0-test (same.now cells.0) cells.1 in
    (up, all_joined old.now (has up) (c.schema-schema.ensures.live up).0 first now bare gives.0 gives.1 gives.2))
    (search rules) (search rules)

pub returns-in-Ok-false-clause-reads : goal.returns-in-Ok-false-clause-reads
returns-in-Ok-false-clause-reads g c =
    let old = state g.S.Store c.args.conn.now in
    let mid = state g.S.Store c.read_bare_lines.new.conn in
    let first = c.new-joining.result in
    let now = c.each_cell.new.taker in
    ends_malformed
    (λ clean has.
    let middle : HasCleanDisk mid = omega (arith, c.each_cell.ensures.survives.clean) in
    let same = c.read_bare_lines.ensures.reads.same middle in
    let heads = c.in-Ok.ensures.reads.ok middle (λ up. (has up).head) in
    let cells = c.in-Ok-false.ensures.rows clean (λ up. (subst HasCellTables (sym (ap (λ (d : Database). d.schema) (same.now up))) (has (same.was_open up))).cell) in
    let up = heads.0 in
    let bare = subst (ReadsHeads (rows_of_head old.now.trees)) (ap (λ v. v.items) (sym c.new-joining.ensures.lines)) heads.1 in
    let gives = gives_at (HasJoined first now) (HasRefused first now) c.in-Ok-false.field-0 false mid.now old.now c.in-Ok-false.field-0-test (same.now cells.0) cells.1 in
    (up, one_refused old.now (has up) (c.schema-schema.ensures.live up).0 first now bare gives.0 gives.1 gives.2 gives.3 c.if-joining.true))
    (search rules) (search rules)
