use Rattle.std.proofs.lemmas.Result.{IfOk-weaker}
use Rattle.ov_specs.specs.integrity.Committed.{committed}
use Rattle.ov_projection.specs.Errors.{error_view}
use Rattle.ov_txn.proofs.Ending.{changed, refused}
use Rattle.ov_txn.proofs.perform.end.Goals as goal

pub returns-in-Changed : goal.returns-in-Changed
returns-in-Changed c =
    let before = c.args.stage.before in
    changed c.args.results before (committed c.args.schema.now before c.args.version c.args.stage.now) c.in-Changed.delta c.in-Changed.ensures

pub returns-in-Refused : goal.returns-in-Refused
returns-in-Refused c =
    let before = c.args.stage.before in
    IfOk-weaker c.refused.result _ _ (λ p made. refused c.args.results before (committed c.args.schema.now before c.args.version c.args.stage.now) (error_view c.in-Refused.error) p c.in-Refused.ensures made) c.refused.ensures
