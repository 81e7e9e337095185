use Rattle.std.proofs.Common.{subst}
use Rattle.std.specs.Prelude.{IfErr, OnOk}
use Rattle.ov_keeper.specs.Keeping.{LeavesMade, LeavesRefused}
use Rattle.ov_specs.specs.rows.Cells.{rewritten}
use Rattle.ov_keeper.specs.Views.{changes_view}
use Rattle.test_basics.proofs.failing_keeper.FailingKeeperKeeper.rewrite.Goals as goal

-- the keeper below was as before when the rewrite was passed on to it
pub returns-then-eq-clause-err : goal.returns-then-eq-clause-err
returns-then-eq-clause-err g c =
    subst (λ k. g.K.Keeper.is_honest c.rewrite-answer.new.self → IfErr c.rewrite-answer.result (LeavesRefused (λ _. rewritten c.args.schema.now (changes_view c.args.changes.now)) (λ held. g.K.Keeper.leaves k held) (λ held. g.K.Keeper.leaves c.rewrite-answer.new.self held)))
    c.next_fault.ensures.same c.rewrite-answer.ensures.err

pub returns-else-eq-clause-ok : goal.returns-else-eq-clause-ok
returns-else-eq-clause-ok g c =
    subst (λ k. g.K.Keeper.is_honest c.rewrite-answer.new.self → OnOk c.rewrite-answer.result (LeavesMade (λ _. rewritten c.args.schema.now (changes_view c.args.changes.now)) (λ held. g.K.Keeper.leaves k held) (λ held. g.K.Keeper.leaves c.rewrite-answer.new.self held)))
    c.next_fault.ensures.same c.rewrite-answer.ensures.ok
