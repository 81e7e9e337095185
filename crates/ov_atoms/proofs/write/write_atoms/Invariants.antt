use Rattle.std.proofs.Common.{◌≡◌, map, take, false}
use Rattle.serde_json.specs.View.{view, items_view}
use Rattle.ov_specs.specs.wire.Tree.{items_have_real}
use Rattle.ov_specs.specs.values.Writing.{atom_tree}
use Rattle.ov_atoms.specs.Views.{atoms_view}
use Rattle.ov_atoms.proofs.write.write_atoms.Given as goal

abbrev pub invariant-loop-atom : goal.invariant-loop-atom
invariant-loop-atom l = record {
  written : map view l.items.items ≡ map atom_tree (atoms_view (take l.atom-index l.atoms));
  plain : items_have_real (items_view l.items.items) ≡ false;
}
