use Rattle.std.proofs.Common.{sym, ap, subst, ◌∙◌}
use Rattle.ov_stored.specs.Changing.{Delta, applied}
use Rattle.ov_specs.specs.rows.Database.{Database}
use Rattle.ov_stage.specs.Staging.{Differs, Stage}
use Rattle.ov_stage.proofs.Stages.{applied-empty, differs-empty}
use Rattle.ov_stage.proofs.stage.Stage.new.Goals as goal

pub invariant_of-result : goal.invariant_of-result
invariant_of-result c = (subst (λ (d : Delta). Differs d c.args.rows.now) (sym c.new.ensures) (differs-empty c.args.rows.now), tt)

pub returns : goal.returns
returns c =
    let with : Database → Stage = λ db. record { before = c.args.rows.now; now = db } in
    ap with (ap (λ (d : Delta). applied d c.args.rows.now) c.new.ensures ∙ applied-empty c.args.rows.now)
