use Rattle.std.proofs.Common.{rules, ℤ, Vec, Global, Err, w64, subst, sym, ap, ◌∙◌}
use Rattle.std.proofs.lemmas.Int.{to_z-of_z}
use Rattle.std.proofs.lemmas.Result.{err_from_is_err_and}
use mir.Val.{SFits}
use Rattle.ov_specs.specs.values.Results.{result_and_then}
use Rattle.ov_atoms.specs.Views.{atoms_view}
use Rattle.ov_atoms.specs.declared.atom.Atom.{Atom}
use Rattle.ov_mutate.specs.Computing.{each_computed, distinct}
use Rattle.ov_mutate.specs.Faults.{IsMutated}
use Rattle.ov_mutate.specs.Views.{operator_view}
use Rattle.ov_mutate.proofs.ComputingLemmas.{fault_of_results}
use Rattle.ov_mutate.proofs.apply.set_computed.Goals as goal

pub returns-in_err-results : goal.returns-in_err-results
returns-in_err-results c =
    let results = λ (n : ℤ). each_computed (operator_view c.args.operator) n (atoms_view c.args.atoms.now) in
    let fits : SFits w64 c.args.by = search rules in
    let by = to_z-of_z w64 c.args.by fits in
    let fault = c.in_err-results.field-0.0 in
    let p = err_from_is_err_and c.from_residual.result c.from_residual.ensures.1 in
    rw (p.1, p.2) (fault_of_results (λ (v : Vec Atom Global). atoms_view v.items) c.args.column.now.type_of (results c.args.by) fault (subst (λ (n : ℤ). IsMutated (λ (v : Vec Atom Global). atoms_view v.items) (results n) (Err fault)) by c.in_err-results.ensures))

pub returns : goal.returns
returns c =
    let results = λ (n : ℤ). each_computed (operator_view c.args.operator) n (atoms_view c.args.atoms.now) in
    let fits : SFits w64 c.args.by = search rules in
    let by = to_z-of_z w64 c.args.by fits in
    let made = sym (ap results by) ∙ c.in_ok-results.ensures in
    subst (λ r. IsMutated (λ d. d) r c.distinct.result) (sym (ap (result_and_then (distinct c.args.column.now.type_of)) made)) c.distinct.ensures
