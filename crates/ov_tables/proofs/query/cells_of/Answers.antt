use Rattle.std.proofs.Common.{codes, IsTrue, subst, sym}
use Rattle.std.proofs.lemmas.Result.{IfOk-weaker}
use Rattle.sqlite.specs.Held.{state}
use Rattle.ov_tables.specs.Tables.{tree_number}
use Rattle.ov_tables.proofs.ReadLemmas.{shown_open}
use Rattle.ov_tables.proofs.PassingLemmas.{key_read, shown_mode, answer_keeps, on_answer}
use Rattle.ov_tables.proofs.query.cells_of.Goals as goal

pub returns-clause-cells : goal.returns-clause-cells
returns-clause-cells g c clean mode text may =
    let old = state g.S.Store c.args.tx.now.conn.now in
    let new = state g.S.Store c.query_all.new.self.conn.now in
    IfOk-weaker c.query_all.result _ _ (λ rows shown.
    let stored = may (shown_open _ _ old new rows.items shown) in
    key_read old new (tree_number old.now.schema (codes "cell")) (c.args.table.now, c.args.id.now) stored.format.schema.cell stored.sound stored.format.cells rows.items (rw c.as_bytes.ensures.value at shown))
    (c.query_all.ensures.ok clean)

pub returns-clause-opened : goal.returns-clause-opened
returns-clause-opened g c clean mode =
    on_answer _ c.query_all.result (c.query_all.ensures.ok clean) (λ rows shown. shown_open _ _ (state g.S.Store c.args.tx.now.conn.now) (state g.S.Store c.query_all.new.self.conn.now) rows.items shown)

pub returns-clause-goes_on : goal.returns-clause-goes_on
returns-clause-goes_on g c clean mode =
    on_answer _ c.query_all.result (c.query_all.ensures.ok clean) (λ rows shown. subst IsTrue (sym (shown_mode _ _ (state g.S.Store c.args.tx.now.conn.now) (state g.S.Store c.query_all.new.self.conn.now) rows.items shown)) mode)

pub returns-clause-kept : goal.returns-clause-kept
returns-clause-kept g c clean mode =
    answer_keeps (λ rows. rows.items) _ _ (state g.S.Store c.args.tx.now.conn.now) (state g.S.Store c.query_all.new.self.conn.now) c.query_all.result mode (c.query_all.ensures.ok clean) (c.query_all.ensures.err clean)
