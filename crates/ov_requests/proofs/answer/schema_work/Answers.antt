use Rattle.std.proofs.Common.{◌≡◌, ◌≢◌, ◌∙◌, List, [], ◌∷◌, length, get_or, Some, refl, sym, ap, codes, arith}
use Rattle.std.proofs.lemmas.Result.{IfOk-weaker}
use Rattle.serde_json.specs.Data.{Data}
use Rattle.serde_json.specs.View.{view, items_view}
use Rattle.serde_json.specs.Find.{as_str}
use Rattle.serde_json.specs.declared.value.Value.{Value}
use Rattle.ov_specs.specs.machine.Machine.{State, schema_call, schema_call_on, refused}
use Rattle.ov_requests.proofs.Asked.{refused_asked, asked_so}
use Rattle.ov_requests.proofs.answer.schema_work.Goals as goal

-- none, or more than one
wrong_count : (s : State) (id : Data) (items : List Value) → length items ≢ 1 → schema_call s id (items_view items) ≡ refused id (codes "syntax error")
wrong_count s id [] other = refl
wrong_count s id (v ∷ []) other = absurd (other refl)
wrong_count s id (v ∷ w ∷ items) other = refl

-- exactly one
right_count : (s : State) (id : Data) (items : List Value) (v : Value) → length items ≡ 1 → v ≡ get_or items 0 v → schema_call s id (items_view items) ≡ schema_call_on s id (as_str (view v))
right_count s id [] v one at = absurd (omega (arith, one))
right_count s id (x ∷ []) v one at = ap (λ (y : Value). schema_call_on s id (as_str (view y))) (sym at)
right_count s id (x ∷ y ∷ items) v one at = absurd (omega (arith, one))

pub returns-then-items-ne1 : goal.returns-then-items-ne1
returns-then-items-ne1 c =
    IfOk-weaker c.refused_work.result _ _ (λ w is s session same. refused_asked s session c.args.id (codes "syntax error") (schema_call s c.args.id c.args.params.now) w is (sym (ap (schema_call s c.args.id) c.as_slice-items.ensures.same) ∙ wrong_count s c.args.id c.as_slice-items.result.now c.if-items-ne1.true)) c.refused_work.ensures

pub returns-in-Some : goal.returns-in-Some
returns-in-Some c =
    IfOk-weaker c.schema_named.result _ _ (λ w is s session same. asked_so s session (schema_call s c.args.id c.args.params.now) (schema_call_on s c.args.id (Some c.in-Some.name.now)) w (sym (ap (schema_call s c.args.id) c.as_slice-items.ensures.same) ∙ (right_count s c.args.id c.as_slice-items.result.now c.index-items-0.result c.if-items-ne1.false c.index-items-0.is ∙ ap (schema_call_on s c.args.id) (sym c.in-Some.ensures))) (is s session same)) c.schema_named.ensures

pub returns-in-None : goal.returns-in-None
returns-in-None c =
    IfOk-weaker c.refused_work-in-None.result _ _ (λ w is s session same. refused_asked s session c.args.id (codes "syntax error") (schema_call s c.args.id c.args.params.now) w is (sym (ap (schema_call s c.args.id) c.as_slice-items.ensures.same) ∙ (right_count s c.args.id c.as_slice-items.result.now c.index-items-0.result c.if-items-ne1.false c.index-items-0.is ∙ ap (schema_call_on s c.args.id) (sym c.in-None.ensures)))) c.refused_work-in-None.ensures
