use Rattle.std.proofs.Common.{◌≡◌, [], true, refl, subst, arith, rules, sym}
use Rattle.std.proofs.lemmas.Result.{IfOk-weaker}
use Rattle.sqlite.specs.State.{HasCleanDisk}
use Rattle.sqlite.specs.Held.{state}
use Rattle.ov_tables.specs.Querying.{IsAsBefore}
use Rattle.ov_tables.proofs.ReadLemmas.{rolled_as_before}
use Rattle.ov_tables.proofs.PassingLemmas.{answer_keeps}
use Rattle.ov_tables.proofs.query.query.Goals as goal

pub returns-clause-rows : goal.returns-clause-rows
returns-clause-rows g c clean =
    let same : c.rollback.new.self.0 ≡ c.conn-1.given.0 = search rules in
    let late : HasCleanDisk (state g.S.Store c.rollback.new.self.0) = subst (λ h. HasCleanDisk (state g.S.Store h)) (sym same) clean in
    let mid = state g.S.Store c.query_all-rows.new.self.conn.now in
    let early : HasCleanDisk mid = omega (arith, c.rollback.ensures.survives.clean) in
    IfOk-weaker c.query_all-rows.result _ _ (λ rows shows. (c.query_all-rows.new.self.conn.now, shows)) ((rw c.transaction-tx.ensures.begun at c.query_all-rows.ensures.ok) early)

pub returns-clause-same : goal.returns-clause-same
returns-clause-same g c clean =
    let old = state g.S.Store c.args.conn.now in
    let begun = state g.S.Store (record c.args.conn.now { in_transaction = true }) in
    let mid = state g.S.Store c.query_all-rows.new.self.conn.now in
    let same : c.rollback.new.self.0 ≡ c.conn-1.given.0 = search rules in
    let late : HasCleanDisk (state g.S.Store c.rollback.new.self.0) = subst (λ h. HasCleanDisk (state g.S.Store h)) (sym same) clean in
    let early : HasCleanDisk mid = omega (arith, c.rollback.ensures.survives.clean) in
    let kept = answer_keeps (λ rows. rows.items) c.args.sql.now [] begun mid c.query_all-rows.result refl ((rw c.transaction-tx.ensures.begun at c.query_all-rows.ensures.ok) early) ((rw c.transaction-tx.ensures.begun at c.query_all-rows.ensures.err) early) in
    let before = rolled_as_before old begun mid (state g.S.Store c.rollback.new.self.0) (λ up. up) (λ up. sym (c.is_autocommit.ensures.settled c.if-not-is_autocommit.false up)) kept (c.rollback.ensures.undone late) in
    subst (λ h. IsAsBefore old (state g.S.Store h)) same before
