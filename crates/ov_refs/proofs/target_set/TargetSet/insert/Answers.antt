use Rattle.std.proofs.Common.{sym, ap, ◌∙◌}
use Rattle.std.specs.FinMap.{insert}
use Rattle.ov_rows.proofs.Nested.{ok_gives}
use Rattle.ov_specs.specs.integrity.References.{Target}
use Rattle.ov_refs.proofs.Placing.{in_strong, in_weak}
use Rattle.ov_refs.proofs.target_set.TargetSet.insert.Goals as goal

pub returns-then-target : goal.returns-then-target
returns-then-target c =
    let sets = c.args.self.now in
    let target = c.args.target in
    ok_gives c.insert.result _ _ (λ put.
    in_strong sets.strong sets.weak c.insert.new.self target (sym (ap (λ (t : Target). t.is_strong) c.target.view_is) ∙ c.if-target.true)
    (put ∙ ap (λ (t : Target). insert sets.strong t.key tt) c.target.view_is)) c.insert.ensures.ok

pub returns-else-target : goal.returns-else-target
returns-else-target c =
    let sets = c.args.self.now in
    let target = c.args.target in
    ok_gives c.insert-else-target.result _ _ (λ put.
    in_weak sets.strong sets.weak c.insert-else-target.new.self target (sym (ap (λ (t : Target). t.is_strong) c.target.view_is) ∙ c.if-target.false)
    (put ∙ ap (λ (t : Target). insert sets.weak t.key tt) c.target.view_is)) c.insert-else-target.ensures.ok
