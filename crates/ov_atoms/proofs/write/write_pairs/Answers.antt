use Rattle.std.proofs.Common.{arith, map, ap, ◌∙◌, codes}
use Rattle.std.proofs.lemmas.Grind.{common_steps}
use Rattle.std.proofs.lemmas.Result.{IfOk-weaker}
use Rattle.serde_json.specs.View.{view, items_view}
use Rattle.ov_specs.specs.wire.Tree.{has_real}
use Rattle.ov_atoms.proofs.Plain.{plain-push, listed_plain}
use Rattle.ov_atoms.proofs.Written.{map_tree-made}
use Rattle.ov_atoms.proofs.write.write_pairs.Goals as goal

pub loop-pair-preserved : goal.loop-pair-preserved
loop-pair-preserved c =
    let written = c.loop-pair.invariant.written in
    let plain = plain-push c.loop-pair.items.items c.in_ok-write_pair.field-0 c.loop-pair.invariant.plain c.in_ok-write_pair.ensures.plain in
    record { written = grind (arith, common_steps); plain = grind (arith, common_steps) }

pub returns-clause-written : goal.returns-clause-written
returns-clause-written c =
    let whole = map_tree-made (map view c.loop-pair.items.items) c.args.pairs.now c.loop-pair.pair-index c.loop-pair-test.false c.loop-pair.invariant.written in
    IfOk-weaker c.listed.result _ _ (λ v e. e ∙ whole) c.listed.ensures

pub returns-clause-plain : goal.returns-clause-plain
returns-clause-plain c =
    let plain = listed_plain (codes "map") (items_view c.loop-pair.items.items) c.loop-pair.invariant.plain in
    IfOk-weaker c.listed.result _ _ (λ v e. ap has_real e ∙ plain) c.listed.ensures
