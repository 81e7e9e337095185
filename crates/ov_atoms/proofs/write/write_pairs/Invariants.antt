use Rattle.std.proofs.Common.{◌≡◌, map, take, false}
use Rattle.serde_json.specs.View.{view, items_view}
use Rattle.ov_specs.specs.wire.Tree.{items_have_real}
use Rattle.ov_specs.specs.values.Writing.{pair_tree}
use Rattle.ov_atoms.specs.Views.{pairs_view}
use Rattle.ov_atoms.proofs.write.write_pairs.Given as goal

abbrev pub invariant-loop-pair : goal.invariant-loop-pair
invariant-loop-pair l = record {
  written : map view l.items.items ≡ map pair_tree (pairs_view (take l.pair-index l.pairs));
  plain : items_have_real (items_view l.items.items) ≡ false;
}
