use Rattle.std.proofs.Common.{◌≡◌, take, map}
use Rattle.serde_json.specs.View.{view}
use Rattle.ov_base.proofs.trees.Trees.from_slice.Given as goal

abbrev pub invariant-loop-tree : goal.invariant-loop-tree
invariant-loop-tree l = map view l.items.items ≡ map view (take l.tree-index l.trees)
