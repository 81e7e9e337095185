use Rattle.std.proofs.Common.{subst, sym, ap, ◌∙◌}
use Rattle.std.proofs.lemmas.List.{length-map}
use Rattle.ov_specs.specs.operations.Mutators.{fitting}
use Rattle.ov_specs.specs.values.Value.{count}
use Rattle.ov_atoms.specs.Views.{atom_view, atoms_view}
use Rattle.ov_mutate.specs.Faults.{IsMutated}
use Rattle.ov_mutate.proofs.ComputingLemmas.{distinct-fewer, distinct-as_many}
use Rattle.ov_mutate.proofs.apply.distinct.Goals as goal

pub returns-then-count : goal.returns-then-count
returns-then-count c =
    let seen = atoms_view c.args.atoms.items in
    distinct-fewer c.args.column.now.type_of seen
    (λ as_many. c.if-count.true (c.count.ensures ∙ ap count c.in_ok-datum.ensures ∙ as_many ∙ length-map c.args.atoms.items atom_view ∙ sym c.args.atoms.ok.0 ∙ sym c.len-count.ensures))

pub returns : goal.returns
returns c =
    let seen = atoms_view c.args.atoms.items in
    let as_many = sym (ap count c.in_ok-datum.ensures) ∙ sym c.count.ensures ∙ c.if-count.false ∙ c.len-count.ensures ∙ c.args.atoms.ok.0 ∙ sym (length-map c.args.atoms.items atom_view) in
    subst (λ r. IsMutated (λ d. d) r c.fitting.result) (ap (fitting c.args.column.now.type_of) c.in_ok-datum.ensures ∙ sym (distinct-as_many c.args.column.now.type_of seen as_many)) c.fitting.ensures
