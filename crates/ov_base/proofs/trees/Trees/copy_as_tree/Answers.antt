use Rattle.std.proofs.Common.{◌∙◌, ap, map, arith}
use Rattle.std.proofs.lemmas.List.{take_all}
use Rattle.serde_json.specs.Data.{array}
use Rattle.serde_json.specs.View.{view, items_view, items_of}
use Rattle.serde_json.proofs.Views.{view-Array}
use Rattle.ov_specs.specs.wire.Tree.{has_real, items_have_real}
use Rattle.ov_base.proofs.trees.Trees.copy_as_tree.Goals as goal

pub new-requires : goal.new-requires
new-requires c =
    let all = ap (λ ds. items_of ds) (c.loop-item.invariant ∙ ap (map view) (take_all c.loop-item.item-index c.deref-item-items.result.now (omega arith))) ∙ ap items_view c.deref-item-items.ensures.value in
    ap has_real (view-Array c.loop-item.items) ∙ (ap items_have_real all ∙ c.self.invariant)

pub returns : goal.returns
returns c =
    let all = ap (λ ds. items_of ds) (c.loop-item.invariant ∙ ap (map view) (take_all c.loop-item.item-index c.deref-item-items.result.now (omega arith))) ∙ ap items_view c.deref-item-items.ensures.value in
    c.new.ensures ∙ (view-Array c.loop-item.items ∙ (ap array all ∙ ap array c.self.view_is))
