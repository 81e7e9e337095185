use Rattle.std.proofs.Common.{codes}
use Rattle.std.proofs.lemmas.Result.{IfOk-weaker}
use Rattle.ov_specs.specs.machine.Machine.{monitor_cancel_call}
use Rattle.ov_requests.proofs.Asked.{refused_asked, cancel_params}
use Rattle.ov_requests.proofs.answer.monitor_cancel_work.Goals as goal

pub returns-in-None : goal.returns-in-None
returns-in-None c =
    IfOk-weaker c.refused_work.result _ _ (λ w is s session. refused_asked s session c.args.id (codes "syntax error") (monitor_cancel_call s session c.args.id c.args.params) w is (cancel_params s session c.args.id c.args.params c.in-None.ensures)) c.refused_work.ensures
