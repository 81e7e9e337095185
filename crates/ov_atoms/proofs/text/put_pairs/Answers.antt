use Rattle.std.proofs.Common.{rules, ◌≡◌, ◌++◌, ◌∷◌, [], ap, ◌∙◌, flat_map, codes}
use Rattle.std.proofs.lemmas.Result.{on_ok_weaker}
use Rattle.json.specs.Token.{begin_array, end_array, string}
use Rattle.ov_specs.specs.values.Writing.{pair_tree}
use Rattle.ov_atoms.specs.Tokens.{tokens_of}
use Rattle.ov_atoms.specs.Views.{pairs_view}
use Rattle.ov_atoms.proofs.Tokens.{map-put}
use Rattle.ov_atoms.proofs.text.put_pairs.Goals as goal

pub returns : goal.returns
returns c =
    let before : c.end_array.new.self.tokens ≡ ((((c.args.out.now.tokens ++ begin_array ∷ []) ++ string (codes "map") ∷ []) ++ begin_array ∷ []) ++ flat_map (λ p. tokens_of (pair_tree p)) (pairs_view c.args.pairs.now)) ++ end_array ∷ [] = search rules in
    record {
      before = search;
      ok = on_ok_weaker c.end_array-2.result (λ e. e ∙ (ap (λ ts. ts ++ end_array ∷ []) before ∙ map-put c.args.out.now.tokens c.args.pairs.now)) c.end_array-2.ensures.ok;
    }
