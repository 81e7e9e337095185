use Rattle.std.proofs.Common.{sym, subst}
use Rattle.std.proofs.lemmas.Result.{IfOk-weaker}
use Rattle.ov_specs.specs.rows.Database.{Database}
use Rattle.ov_specs.specs.rows.Suits.{Suits}
use Rattle.ov_db.proofs.open.own_resident.Goals as goal

pub returns-clause-suits : goal.returns-clause-suits
returns-clause-suits c = IfOk-weaker c.of.result _ _ (λ resident is. subst (λ (rows : Database). Suits c.args.schema.now rows) (sym is.0) c.in_ok-rows.ensures.suits) c.of.ensures.resident
