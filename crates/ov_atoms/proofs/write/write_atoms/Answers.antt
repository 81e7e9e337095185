use Rattle.std.proofs.Common.{arith, map, ap, ◌∙◌, codes}
use Rattle.std.proofs.lemmas.Grind.{common_steps}
use Rattle.std.proofs.lemmas.Result.{IfOk-weaker}
use Rattle.serde_json.specs.View.{view, items_view}
use Rattle.ov_specs.specs.wire.Tree.{has_real}
use Rattle.ov_atoms.proofs.Plain.{plain-push, listed_plain}
use Rattle.ov_atoms.proofs.Written.{set_tree-made}
use Rattle.ov_atoms.proofs.write.write_atoms.Goals as goal

pub loop-atom-preserved : goal.loop-atom-preserved
loop-atom-preserved c =
    let written = c.loop-atom.invariant.written in
    let plain = plain-push c.loop-atom.items.items c.in_ok-write_atom.field-0 c.loop-atom.invariant.plain c.in_ok-write_atom.ensures.plain in
    record { written = grind (arith, common_steps); plain = grind (arith, common_steps) }

pub returns-clause-written : goal.returns-clause-written
returns-clause-written c =
    let whole = set_tree-made (map view c.loop-atom.items.items) c.args.atoms.now c.loop-atom.atom-index c.if-atoms-eq1.false c.loop-atom-test.false c.loop-atom.invariant.written in
    IfOk-weaker c.listed.result _ _ (λ v e. e ∙ whole) c.listed.ensures

pub returns-clause-plain : goal.returns-clause-plain
returns-clause-plain c =
    let plain = listed_plain (codes "set") (items_view c.loop-atom.items.items) c.loop-atom.invariant.plain in
    IfOk-weaker c.listed.result _ _ (λ v e. ap has_real e ∙ plain) c.listed.ensures
