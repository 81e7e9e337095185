use Rattle.std.proofs.Common.{ap, ◌∙◌}
use Rattle.std.proofs.lemmas.Result.{IfOk-weaker}
use Rattle.ov_specs.specs.values.Reading.{reads}
use Rattle.ov_specs.specs.values.Writing.{set_tree, map_tree}
use Rattle.ov_specs.proofs.laws.ReadingBack.{reads-tree}
use Rattle.ov_atoms.specs.Views.{pairs_view}
use Rattle.ov_atoms.proofs.Trees.{set_tree-atoms, map_tree-pairs}
use Rattle.ov_atoms.proofs.write.write_datum.Goals as goal

pub returns-in-Atoms-clause-written : goal.returns-in-Atoms-clause-written
returns-in-Atoms-clause-written c =
    let whole = ap set_tree c.as_slice.ensures ∙ set_tree-atoms c.datum.inside.parts c.in-Atoms.atoms c.args.datum.now c.in-Atoms.is c.datum.invariant c.datum.view_is in
    IfOk-weaker c.write_atoms.result _ _ (λ v e. e ∙ whole) c.write_atoms.ensures.written

pub returns-in-Atoms-clause-reads_back : goal.returns-in-Atoms-clause-reads_back
returns-in-Atoms-clause-reads_back c =
    let whole = ap set_tree c.as_slice.ensures ∙ set_tree-atoms c.datum.inside.parts c.in-Atoms.atoms c.args.datum.now c.in-Atoms.is c.datum.invariant c.datum.view_is in
    IfOk-weaker c.write_atoms.result _ _ (λ v e names kinds h. ap (reads names kinds) (e ∙ whole) ∙ reads-tree names kinds c.args.datum.now h) c.write_atoms.ensures.written

pub returns-in-Pairs-clause-written : goal.returns-in-Pairs-clause-written
returns-in-Pairs-clause-written c =
    let whole = ap (λ xs. map_tree (pairs_view xs)) c.as_slice-in-Pairs.ensures.value ∙ map_tree-pairs c.datum.inside.parts c.in-Pairs.pairs c.args.datum.now c.in-Pairs.is c.datum.invariant c.datum.view_is in
    IfOk-weaker c.write_pairs.result _ _ (λ v e. e ∙ whole) c.write_pairs.ensures.written

pub returns-in-Pairs-clause-reads_back : goal.returns-in-Pairs-clause-reads_back
returns-in-Pairs-clause-reads_back c =
    let whole = ap (λ xs. map_tree (pairs_view xs)) c.as_slice-in-Pairs.ensures.value ∙ map_tree-pairs c.datum.inside.parts c.in-Pairs.pairs c.args.datum.now c.in-Pairs.is c.datum.invariant c.datum.view_is in
    IfOk-weaker c.write_pairs.result _ _ (λ v e names kinds h. ap (reads names kinds) (e ∙ whole) ∙ reads-tree names kinds c.args.datum.now h) c.write_pairs.ensures.written
