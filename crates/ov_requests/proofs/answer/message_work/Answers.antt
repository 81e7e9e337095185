use Rattle.std.proofs.Common.{◌≡◌, ◌∙◌, List, ℕ, codes, false, sym, ap}
use Rattle.std.proofs.lemmas.Result.{IfOk-weaker}
use Rattle.std.specs.Str.{bytes_eq}
use Rattle.ov_specs.specs.machine.Machine.{work_of, call_of}
use Rattle.ov_rpc.specs.declared.message.Message.{Message}
use Rattle.ov_rpc.specs.Incoming.{is_echo}
use Rattle.ov_rpc.specs.Message.{message_view}
use Rattle.ov_requests.proofs.Asked.{asked_so}
use Rattle.ov_requests.proofs.answer.message_work.Goals as goal

pub returns-in-Call : goal.returns-in-Call
returns-in-Call c = λ no_echo.
    let other : bytes_eq c.as_str.result.now (codes "echo") ≡ false = ap (λ (t : List ℕ). bytes_eq t (codes "echo")) c.as_str.ensures ∙ (ap (λ (m : Message). is_echo (message_view m)) (sym c.in-Call.is) ∙ no_echo) in
    IfOk-weaker c.call_work.result _ _ (λ w is s same waits. asked_so s c.args.session (work_of s c.args.session (message_view c.args.message)) (call_of s c.args.session c.in-Call.id c.as_str.result.now c.in-Call.params) w (ap (λ (m : Message). work_of s c.args.session (message_view m)) c.in-Call.is ∙ ap (λ (t : List ℕ). call_of s c.args.session c.in-Call.id t c.in-Call.params) (sym c.as_str.ensures)) (is s same waits)) (c.call_work.ensures other)
