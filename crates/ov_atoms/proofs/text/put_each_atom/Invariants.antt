use Rattle.std.proofs.Common.{◌≡◌, flat_map, take, ◌++◌}
use Rattle.ov_specs.specs.values.Writing.{atom_tree}
use Rattle.ov_atoms.specs.Tokens.{tokens_of}
use Rattle.ov_atoms.specs.Views.{atoms_view}
use Rattle.ov_atoms.proofs.text.put_each_atom.Given as goal

abbrev pub invariant-loop-atom : goal.invariant-loop-atom
invariant-loop-atom l = record {
  before : l.out.before ≡ l.fn.out.before;
  tokens : l.out.tokens ≡ l.fn.out.tokens ++ flat_map (λ a. tokens_of (atom_tree a)) (atoms_view (take l.atom-index l.atoms));
}
