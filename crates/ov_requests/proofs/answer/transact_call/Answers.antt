use Rattle.std.proofs.Common.{◌∙◌, Some, None, true, false, codes, sym, ap}
use Rattle.std.proofs.lemmas.Result.{IfOk-weaker}
use Rattle.serde_json.specs.View.{view}
use Rattle.ov_specs.specs.machine.Machine.{transact_work, transact_call}
use Rattle.ov_requests.proofs.Asked.{refused_asked, asked_so, eq_at, transact_named, transact_here, transact_elsewhere}
use Rattle.ov_requests.proofs.answer.transact_call.Goals as goal

pub returns-in_default : goal.returns-in_default
returns-in_default c =
    IfOk-weaker c.refused_work.result _ _ (λ w is s named same. refused_asked s c.args.session c.args.id (codes "syntax error") (transact_call s c.args.session c.args.id c.args.params) w is (ap (transact_call s c.args.session c.args.id) c.in_default.ensures)) c.refused_work.ensures

pub returns-in-None : goal.returns-in-None
returns-in-None c =
    IfOk-weaker c.refused_work-in-None.result _ _ (λ w is s named same. refused_asked s c.args.session c.args.id (codes "syntax error") (transact_call s c.args.session c.args.id c.args.params) w is (transact_named s c.args.session c.args.id (view c.in-Some.first) c.args.params c.in-Some.operations None c.in-Some.ensures (sym c.in-None.ensures))) c.refused_work-in-None.ensures

pub returns-then-eq : goal.returns-then-eq
returns-then-eq c =
    IfOk-weaker c.transact_work.result _ _ (λ w is s named same. asked_so s c.args.session (transact_call s c.args.session c.args.id c.args.params) (transact_work s c.args.session c.args.id c.in-Some.operations) w (transact_named s c.args.session c.args.id (view c.in-Some.first) c.args.params c.in-Some.operations (Some c.in-Some-as_str.text.now) c.in-Some.ensures (sym c.in-Some-as_str.ensures) ∙ transact_here s c.args.session c.args.id c.in-Some-as_str.text.now c.in-Some.operations (eq_at c.in-Some-as_str.text.now c.as_str-in-Some-as_str.result.now s.schema.name true c.if-eq.ensures (c.as_str-in-Some-as_str.ensures ∙ sym named))) (is s same)) c.transact_work.ensures

pub returns : goal.returns
returns c =
    IfOk-weaker c.refused_work-else-eq.result _ _ (λ w is s named same. refused_asked s c.args.session c.args.id (codes "unknown database") (transact_call s c.args.session c.args.id c.args.params) w is (transact_named s c.args.session c.args.id (view c.in-Some.first) c.args.params c.in-Some.operations (Some c.in-Some-as_str.text.now) c.in-Some.ensures (sym c.in-Some-as_str.ensures) ∙ transact_elsewhere s c.args.session c.args.id c.in-Some-as_str.text.now c.in-Some.operations (eq_at c.in-Some-as_str.text.now c.as_str-in-Some-as_str.result.now s.schema.name false c.if-eq.ensures (c.as_str-in-Some-as_str.ensures ∙ sym named)))) c.refused_work-else-eq.ensures
