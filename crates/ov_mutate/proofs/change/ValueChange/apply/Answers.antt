use Rattle.std.proofs.Common.{rules, w64, subst, sym, ap, ◌∙◌}
use Rattle.std.proofs.lemmas.Int.{to_z-of_z}
use mir.Val.{SFits}
use Rattle.ov_specs.specs.operations.Mutators.{mutated}
use Rattle.ov_atoms.specs.Views.{atoms_view}
use Rattle.ov_mutate.specs.Computing.{set_computed}
use Rattle.ov_mutate.specs.Faults.{IsMutated}
use Rattle.ov_mutate.specs.Views.{operator_view, value_change_view}
use Rattle.ov_mutate.proofs.ComputingLemmas.{mutated-set}
use Rattle.ov_mutate.proofs.change.ValueChange.apply.Goals as goal

pub returns-in-Some : goal.returns-in-Some
returns-in-Some c =
    let t = c.args.column.now.type_of in
    let made = ap (λ change. mutated t (value_change_view change) c.args.datum.now) c.in-Compute.is
    ∙ mutated-set t (operator_view c.in-Compute.operator) c.in-Compute.by c.args.datum.now (atoms_view c.in-Some.atoms.now) c.in-Some.ensures in
    let fits : SFits w64 c.in-Compute.by = search rules in
    let own = ap (λ n. set_computed t (operator_view c.in-Compute.operator) n (atoms_view c.in-Some.atoms.now)) (to_z-of_z w64 c.in-Compute.by fits) in
    subst (λ r. IsMutated (λ d. d) r c.set_computed.result) (own ∙ sym made) c.set_computed.ensures
