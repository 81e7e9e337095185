use Rattle.std.proofs.Common.{◌≡◌, flat_map, take, ◌++◌}
use Rattle.ov_specs.specs.values.Writing.{pair_tree}
use Rattle.ov_atoms.specs.Tokens.{tokens_of}
use Rattle.ov_atoms.specs.Views.{pairs_view}
use Rattle.ov_atoms.proofs.text.put_each_pair.Given as goal

abbrev pub invariant-loop-pair : goal.invariant-loop-pair
invariant-loop-pair l = record {
  before : l.out.before ≡ l.fn.out.before;
  tokens : l.out.tokens ≡ l.fn.out.tokens ++ flat_map (λ p. tokens_of (pair_tree p)) (pairs_view (take l.pair-index l.pairs));
}
