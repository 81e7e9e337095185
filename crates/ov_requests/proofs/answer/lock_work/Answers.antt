use Rattle.std.proofs.Common.{◌∙◌, Some, None, codes, sym, ap}
use Rattle.std.proofs.lemmas.Result.{IfOk-weaker}
use Rattle.serde_json.specs.Find.{as_str}
use Rattle.ov_specs.specs.machine.Machine.{lock_call}
use Rattle.ov_locks.specs.Calls.{lock_call_view}
use Rattle.ov_requests.proofs.Asked.{refused_asked, lock_params, lock_named, lock_unnamed}
use Rattle.ov_requests.proofs.answer.lock_work.Goals.{in_default-as_str-via-in-Some-as_str+else-is_id, in_default-as_str-via-in_default-as_str}
use Rattle.ov_requests.proofs.answer.lock_work.Goals as goal

pub returns-in_default : goal.returns-in_default
returns-in_default c =
    IfOk-weaker c.refused_work.result _ _ (λ w is s session. refused_asked s session c.args.id (codes "syntax error") (lock_call s session c.args.id (lock_call_view c.args.call) c.args.params) w is (lock_params s session c.args.id (lock_call_view c.args.call) c.args.params c.in_default.ensures)) c.refused_work.ensures

pub returns : goal.returns
returns c =
    let value = ap as_str c.as_value.ensures.same in
    elim c.in_default-as_str.branch [
      | in_default-as_str-via-in-Some-as_str+else-is_id b ↦ IfOk-weaker c.refused_work-in_default-as_str.result _ _ (λ w is s session. refused_asked s session c.args.id (codes "syntax error") (lock_call s session c.args.id (lock_call_view c.args.call) c.args.params) w is (lock_named s session c.args.id (lock_call_view c.args.call) c.args.params c.in-Some.param (Some b.in-Some-as_str.name.now) c.in-Some.ensures (sym (b.in-Some-as_str.ensures ∙ value)) ∙ lock_unnamed s session c.args.id (lock_call_view c.args.call) b.in-Some-as_str.name.now b.if-is_id.ensures)) c.refused_work-in_default-as_str.ensures
      | in_default-as_str-via-in_default-as_str b ↦ IfOk-weaker c.refused_work-in_default-as_str.result _ _ (λ w is s session. refused_asked s session c.args.id (codes "syntax error") (lock_call s session c.args.id (lock_call_view c.args.call) c.args.params) w is (lock_named s session c.args.id (lock_call_view c.args.call) c.args.params c.in-Some.param None c.in-Some.ensures (sym (b.in_default-as_str.ensures ∙ value)))) c.refused_work-in_default-as_str.ensures
    ]
