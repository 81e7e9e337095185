use Rattle.std.proofs.Common.{◌∙◌, ap, map, arith}
use Rattle.std.proofs.lemmas.List.{take_all}
use Rattle.serde_json.specs.View.{view, items_of}
use Rattle.ov_specs.specs.wire.Tree.{items_have_real}
use Rattle.ov_base.proofs.trees.Trees.from_slice.Goals as goal

pub new-requires : goal.new-requires
new-requires c =
    let all = ap (λ ds. items_of ds) (c.loop-tree.invariant ∙ ap (map view) (take_all c.loop-tree.tree-index c.args.trees.now (omega arith))) in
    ap items_have_real all ∙ c.requires

pub returns : goal.returns
returns c =
    let all = ap (λ ds. items_of ds) (c.loop-tree.invariant ∙ ap (map view) (take_all c.loop-tree.tree-index c.args.trees.now (omega arith))) in
    c.new.ensures ∙ all
