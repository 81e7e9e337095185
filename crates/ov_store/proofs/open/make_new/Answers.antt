use Rattle.std.proofs.Common.{inl, inr}
use Rattle.sqlite.specs.Held.{state}
use Rattle.sqlite_trees.specs.Tree.{Trees}
use Rattle.ov_tables.specs.Making.{IsNewBeside}
use Rattle.ov_tables.proofs.KeepLemmas.{survives_as}
use Rattle.ov_store.specs.Answers.{Making, was_answered}
use Rattle.ov_store.proofs.FoundLemmas.{refused_left}
use Rattle.ov_store.proofs.open.make_new.Goals as goal

pub returns-clause-left : goal.returns-clause-left
returns-clause-left g c may =
    let old = c.args.conn.now in
    let mid = c.make_tables.new.conn in
    let P = λ (trees : Trees). IsNewBeside c.args.schema.now (state g.S.Store old) trees in
    let whole = survives_as (state g.S.Store old) (state g.S.Store mid) _ P c.make_tables.ensures.crash (λ clean db h. elim (c.make_tables.ensures.crash.crash clean db h) [ inl was ↦ inl was | inr made ↦ inr (made may) ]) in
    refused_left g.S.Store g.met.S.Store.settled g.met.S.Store.stays old mid c.fault_at-fault.new.conn P c.fault_at-fault.result c.in-Err.failure c.in-Err.ensures.before whole
    c.in-Err.ensures.unmoved c.fault_at-fault.ensures.survives c.fault_at-fault.ensures.shown

pub returns-clause-told : goal.returns-clause-told
returns-clause-told g c = was_answered Making c.fault_at-fault.result
