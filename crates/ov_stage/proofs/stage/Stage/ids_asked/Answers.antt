use Rattle.std.proofs.Common.{IfOk, IfSome, subst}
use Rattle.ov_stage.specs.Asked.{AreIdsOf, AreIndexesIf}
use Rattle.ov_stage.specs.Staging.{Stage}
use Rattle.ov_stage.proofs.stage.Stage.ids_asked.Goals as goal

pub returns-in-Some-clause-all : goal.returns-in-Some-clause-all
returns-in-Some-clause-all c =
    let before = c.self.inside.rows.now in
    let indexes = (subst (AreIndexesIf before) c.in-Some.is c.self.invariant.1).0 in
    subst (λ (s : Stage). IfOk c.ids_asked.result (λ asked. IfSome asked (λ ids. AreIdsOf c.args.conditions.now s.before c.args.table.now ids.now))) c.self.view_is (c.ids_asked.ensures.all before indexes)
