use Rattle.std.proofs.Common.{◌≡◌, Ok, sym, ap, subst, ◌∙◌}
use Rattle.std.proofs.lemmas.Result.{err_from_is_err_and}
use Rattle.ov_specs.specs.schema.SchemaShape.{schema_shape}
use Rattle.ov_specs.specs.schema.Schema.{judged}
use Rattle.ov_schema_text.specs.SchemaMembers.{schema_of_members}
use Rattle.ov_schema_text.specs.Refusals.{IsRefusalOf, JudgesWith}
use Rattle.ov_schema_text.specs.FaultViews.{refusal_view}
use Rattle.ov_schema_text.proofs.RefusalLemmas.{accepted-plain}
use Rattle.ov_schema_text.proofs.schema.schema_of_tree.Goals as goal

pub returns-clause-ok : goal.returns-clause-ok
returns-clause-ok c =
    accepted-plain c.args.tree c.as_value.ensures.plain
    ∙ subst (λ d. judged d (schema_shape d) ≡ Ok (schema_of_members d c.in_ok-parts.parts)) c.as_value.ensures.same c.in_ok-parts.ensures.ok
    ∙ ap Ok (sym c.new.ensures)

pub returns-in_err-parts-clause-refused : goal.returns-in_err-parts-clause-refused
returns-in_err-parts-clause-refused c =
    let p = err_from_is_err_and c.from_residual.result c.from_residual.ensures.1 in
    let fault = c.in_err-parts.field-0.0 in
    rw (p.1, p.2)
    (subst (IsRefusalOf (refusal_view fault)) (sym (accepted-plain c.args.tree c.as_value.ensures.plain))
    (subst (λ d. JudgesWith d fault) c.as_value.ensures.same c.in_err-parts.ensures.refused))
