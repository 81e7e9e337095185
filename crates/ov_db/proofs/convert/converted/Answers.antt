use Rattle.std.proofs.Common.{sym, subst}
use Rattle.std.proofs.lemmas.Result.{IfOk-weaker}
use Rattle.ov_specs.specs.rows.Database.{Database}
use Rattle.ov_specs.specs.rows.Suits.{Suits}
use Rattle.ov_db.proofs.convert.converted.Goals as goal

pub converted_rows-requires-clause-suits : goal.converted_rows-requires-clause-suits
converted_rows-requires-clause-suits c = subst (λ (rows : Database). Suits c.args.old.now rows) (sym c.in_ok-before.ensures.same) c.requires

pub returns-in-Ok-clause-suits : goal.returns-in-Ok-clause-suits
returns-in-Ok-clause-suits c = IfOk-weaker c.of.result _ _ (λ resident is. subst (λ (rows : Database). Suits c.args.new.now rows) (sym is.0) c.in-Ok.ensures.suits) c.of.ensures.resident
