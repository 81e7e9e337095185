use Rattle.std.proofs.Common.{subst}
use Rattle.std.specs.Prelude.{IfErr, OnOk}
use Rattle.ov_keeper.specs.Keeping.{LeavesMade, LeavesRefused, changed}
use Rattle.ov_keeper.specs.Views.{changes_view}
use Rattle.test_basics.proofs.failing_keeper.FailingKeeperKeeper.commit.Goals as goal

-- the keeper below was as before when the commit was passed on to it
pub returns-then-eq-clause-err : goal.returns-then-eq-clause-err
returns-then-eq-clause-err g c =
    subst (λ k. g.K.Keeper.is_honest c.commit-answer.new.self → IfErr c.commit-answer.result (LeavesRefused (changed (changes_view c.args.changes.now)) (λ held. g.K.Keeper.leaves k held) (λ held. g.K.Keeper.leaves c.commit-answer.new.self held)))
    c.next_fault.ensures.same c.commit-answer.ensures.err

pub returns-else-eq-clause-ok : goal.returns-else-eq-clause-ok
returns-else-eq-clause-ok g c =
    subst (λ k. g.K.Keeper.is_honest c.commit-answer.new.self → OnOk c.commit-answer.result (LeavesMade (changed (changes_view c.args.changes.now)) (λ held. g.K.Keeper.leaves k held) (λ held. g.K.Keeper.leaves c.commit-answer.new.self held)))
    c.next_fault.ensures.same c.commit-answer.ensures.ok
