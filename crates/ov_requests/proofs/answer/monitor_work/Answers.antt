use Rattle.std.proofs.Common.{◌∙◌, List, ℕ, Option, true, false, is_some, codes, sym, ap}
use Rattle.std.proofs.lemmas.Result.{IfOk-weaker}
use Rattle.serde_json.specs.Data.{Data}
use Rattle.serde_json.specs.Find.{as_str, as_object}
use Rattle.ov_specs.specs.machine.Machine.{monitor_call, monitor_call_on}
use Rattle.ov_specs.specs.schema.SchemaTypes.{Schema}
use Rattle.ov_requests.proofs.Asked.{refused_asked, eq_at, monitor_params, monitor_requests, monitor_elsewhere}
use Rattle.ov_requests.proofs.answer.monitor_work.Goals as goal

pub returns-in_default : goal.returns-in_default
returns-in_default c =
    IfOk-weaker c.refused_work.result _ _ (λ w is s session same. refused_asked s session c.args.id (codes "syntax error") (monitor_call s session c.args.id c.args.params) w is (monitor_params s session c.args.id c.args.params c.in_default.ensures)) c.refused_work.ensures

pub returns-then-not-is_object : goal.returns-then-not-is_object
returns-then-not-is_object c =
    IfOk-weaker c.refused_work-then-not-is_object.result _ _ (λ w is s session same. refused_asked s session c.args.id (codes "syntax error") (monitor_call s session c.args.id c.args.params) w is (monitor_requests s session c.args.id c.in-Some.database c.in-Some.name c.in-Some.requests c.args.params false c.in-Some.ensures (sym (c.if-not-is_object.ensures ∙ ap (λ (x : Data). is_some (as_object x)) c.as_value.ensures.same)))) c.refused_work-then-not-is_object.ensures

pub returns-in-None : goal.returns-in-None
returns-in-None c =
    IfOk-weaker c.refused_work-in-None.result _ _ (λ w is s session same. refused_asked s session c.args.id (codes "syntax error") (monitor_call s session c.args.id c.args.params) w is (monitor_requests s session c.args.id c.in-Some.database c.in-Some.name c.in-Some.requests c.args.params true c.in-Some.ensures (sym (c.if-not-is_object.ensures ∙ ap (λ (x : Data). is_some (as_object x)) c.as_value.ensures.same)) ∙ ap (λ (n : Option (List ℕ)). monitor_call_on s session c.args.id n c.in-Some.name c.in-Some.requests) (sym (c.in-None.ensures ∙ ap as_str c.as_value-2.ensures.same)))) c.refused_work-in-None.ensures

pub returns : goal.returns
returns c =
    IfOk-weaker c.refused_work-else-eq.result _ _ (λ w is s session same. refused_asked s session c.args.id (codes "unknown database") (monitor_call s session c.args.id c.args.params) w is (monitor_requests s session c.args.id c.in-Some.database c.in-Some.name c.in-Some.requests c.args.params true c.in-Some.ensures (sym (c.if-not-is_object.ensures ∙ ap (λ (x : Data). is_some (as_object x)) c.as_value.ensures.same)) ∙ (ap (λ (n : Option (List ℕ)). monitor_call_on s session c.args.id n c.in-Some.name c.in-Some.requests) (sym (c.in-Some-as_str.ensures ∙ ap as_str c.as_value-2.ensures.same)) ∙ monitor_elsewhere s session c.args.id c.in-Some-as_str.text.now c.in-Some.name c.in-Some.requests (eq_at c.in-Some-as_str.text.now c.as_str-in-Some-as_str.result.now s.schema.name false c.if-eq.ensures (c.as_str-in-Some-as_str.ensures ∙ (c.name.ensures ∙ sym (ap (λ (x : Schema). x.name) same))))))) c.refused_work-else-eq.ensures
