use Rattle.std.proofs.Common.{IfSome, subst}
use Rattle.ov_stage.specs.Asked.{AreValuesOf}
use Rattle.ov_stage.proofs.Asking.{index-asked}
use Rattle.ov_stage.proofs.indexed.index_asked.Goals as goal

pub returns-in-Some : goal.returns-in-Some
returns-in-Some c =
    let conditions = c.args.conditions.now in
    let asked = subst (λ o. IfSome o (λ values. AreValuesOf conditions c.as_slice.result.now values.items)) c.in-Some.is c.in_ok-values.ensures in
    index-asked conditions c.args.table.now (λ index. index.items) c.indexes-index-items.result.now c.loop-number.number c.index-item.result c.in-Some.values.items
    c.indexes-index-items.ensures c.loop-number-test.true c.index-item.is (subst (λ index. AreValuesOf conditions index c.in-Some.values.items) c.as_slice.ensures.value asked)
