use Rattle.std.proofs.Common.{IfSome, sym, subst, ap, ◌∙◌}
use Rattle.std.specs.FinMap.{keys}
use Rattle.ov_index.specs.IndexKeys.{index_key}
use Rattle.ov_index.specs.Indexing.{Ascend, ids_at}
use Rattle.ov_stage.specs.Asked.{AreIdsOf, AreValuesAt}
use Rattle.ov_stage.proofs.Asking.{ids-ascend, ids-asked}
use Rattle.ov_stage.proofs.indexed.Indexed.ids_asked.Goals as goal

pub returns-in-Some-2-clause-ascending : goal.returns-in-Some-2-clause-ascending
returns-in-Some-2-clause-ascending c = subst Ascend (sym c.ids_at-ids.ensures) (ids-ascend (ids_at c.args.self.indexes.now (index_key c.args.name.now c.in-Some-2.number c.as_slice.result.now)))

pub returns-in-Some-2-clause-all : goal.returns-in-Some-2-clause-all
returns-in-Some-2-clause-all c before are =
    let conditions = c.args.conditions.now in
    let name = c.args.name.now in
    let table = c.in-Some.table.now in
    let number = c.in-Some-2.number in
    let values = c.in-Some-2.values.items in
    let asked = subst (λ o. IfSome o (λ p. AreValuesAt conditions table p.0 p.1.items)) c.in-Some-2.is c.in_ok-number.ensures in
    let found = c.ids_at-ids.ensures ∙ ap (λ vs. keys (ids_at c.args.self.indexes.now (index_key name number vs))) c.as_slice.ensures.value in
    subst (AreIdsOf conditions before name) (sym found) (ids-asked conditions c.args.self.schema.now before c.args.self.indexes.now name table number values are c.in-Some.ensures asked)
