use Rattle.std.proofs.Common.{◌++◌, ap, ◌∙◌}
use Rattle.std.proofs.lemmas.Result.{on_ok_weaker}
use Rattle.ov_specs.specs.values.Writing.{set_tree, map_tree}
use Rattle.ov_atoms.specs.Tokens.{tokens_of}
use Rattle.ov_atoms.specs.Views.{pairs_view}
use Rattle.ov_atoms.proofs.Trees.{set_tree-atoms, map_tree-pairs}
use Rattle.ov_atoms.proofs.text.put_datum.Goals as goal

pub returns-in-Atoms : goal.returns-in-Atoms
returns-in-Atoms c =
    let whole = ap set_tree c.as_slice.ensures ∙ set_tree-atoms c.datum.inside.parts c.in-Atoms.atoms c.args.datum.now c.in-Atoms.is c.datum.invariant c.datum.view_is in
    record {
      before = c.put_atoms.ensures.before;
      ok = on_ok_weaker c.put_atoms.result (λ e. e ∙ ap (λ t. c.args.out.now.tokens ++ tokens_of t) whole) c.put_atoms.ensures.ok;
    }

pub returns-in-Pairs : goal.returns-in-Pairs
returns-in-Pairs c =
    let whole = ap (λ xs. map_tree (pairs_view xs)) c.as_slice-in-Pairs.ensures.value ∙ map_tree-pairs c.datum.inside.parts c.in-Pairs.pairs c.args.datum.now c.in-Pairs.is c.datum.invariant c.datum.view_is in
    record {
      before = c.put_pairs.ensures.before;
      ok = on_ok_weaker c.put_pairs.result (λ e. e ∙ ap (λ t. c.args.out.now.tokens ++ tokens_of t) whole) c.put_pairs.ensures.ok;
    }
