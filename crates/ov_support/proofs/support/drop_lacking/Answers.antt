use Rattle.std.proofs.Common.{◌≡◌, [], subst, sym, ◌∙◌, arith}
use Rattle.std.proofs.lemmas.List.{nil_from_length}
use Rattle.ov_support.specs.Supporting.{MayLack}
use Rattle.ov_support.proofs.Lacking.{lacking_none}
use Rattle.ov_support.proofs.support.drop_lacking.Goals as goal

pub returns : goal.returns
returns c =
    let schema = c.args.schema.now in
    let stage = c.loop-key.stage in
    let none : c.loop-key.work.items ≡ [] = nil_from_length _ (omega (arith, c.in_default.ensures.cases.0)) in
    let whole = lacking_none schema stage.now (subst (MayLack schema stage.now) none c.loop-key.invariant.3) in
    λ i. record { before = c.loop-key.invariant.0 i; now = (sym whole ∙ c.loop-key.invariant.1) i }
