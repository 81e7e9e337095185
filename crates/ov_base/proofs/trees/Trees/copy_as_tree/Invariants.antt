use Rattle.std.proofs.Common.{◌≡◌, take, map}
use Rattle.serde_json.specs.View.{view}
use Rattle.ov_base.proofs.trees.Trees.copy_as_tree.Given as goal

abbrev pub invariant-loop-item : goal.invariant-loop-item
invariant-loop-item l = map view l.items.items ≡ map view (take l.item-index l.item-items)
