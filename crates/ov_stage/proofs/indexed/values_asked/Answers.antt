use Rattle.std.proofs.Common.{subst}
use Rattle.ov_stage.specs.Asked.{IsValueOf}
use Rattle.ov_stage.proofs.Asking.{values-asked}
use Rattle.ov_stage.proofs.indexed.values_asked.Goals as goal

pub loop-column-preserved : goal.loop-column-preserved
loop-column-preserved c =
    let conditions = c.args.conditions.now in
    let value = c.in-Some.value.now in
    values-asked conditions c.args.index.now c.loop-column.column-index c.column-item.result c.loop-column.values.items c.push.new.self.items value c.in_ok-copy-in-Some.field-0
    c.loop-column-test.true c.column-item.is c.in_ok-push-in-Some.ensures.items c.in_ok-copy-in-Some.ensures (subst (λ n. IsValueOf conditions n value) c.as_str.ensures c.in-Some.ensures) c.loop-column.invariant
