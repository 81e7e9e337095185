use Rattle.std.proofs.Common.{codes}
use Rattle.std.proofs.lemmas.Result.{IfOk-weaker}
use Rattle.ov_specs.specs.machine.Machine.{call_of}
use Rattle.ov_requests.proofs.Asked.{refused_asked, unknown_method}
use Rattle.ov_requests.proofs.answer.call_work.Goals as goal

pub returns-in_default : goal.returns-in_default
returns-in_default c = λ no_echo.
    IfOk-weaker c.refused_work.result _ _ (λ w is s same waits. refused_asked s c.args.session c.args.id (codes "unknown method") (call_of s c.args.session c.args.id c.args.method.now c.args.params) w is (unknown_method s c.args.session c.args.id c.args.method.now c.args.params c.in_default.not-list_dbs c.in_default.not-get_schema c.in_default.not-transact no_echo c.in_default.not-lock c.in_default.not-steal c.in_default.not-unlock c.in_default.not-monitor c.in_default.not-monitor_cancel)) c.refused_work.ensures
