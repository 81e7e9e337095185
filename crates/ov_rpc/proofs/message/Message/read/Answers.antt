use Rattle.std.proofs.Common.{◌∙◌, sym}
use Rattle.serde_json.specs.View.{view}
use Rattle.ov_rpc.proofs.Requests.{no_message, message_by}
use Rattle.ov_rpc.proofs.message.Message.read.Goals as goal

pub returns-in-Err-2-clause-unreadable : goal.returns-in-Err-2-clause-unreadable
returns-in-Err-2-clause-unreadable c = λ _. no_message c.args.text.now (c.in-Err.ensures.err (λ m. let t = c.is_memory.ensures.1 m in cc))

pub returns-in-Some-clause-message : goal.returns-in-Some-clause-message
returns-in-Some-clause-message c = message_by c.args.text.now (view c.in-Ok.value) c.in-Ok.ensures.ok.0 c.in-Ok.ensures.ok.1 ∙ sym c.in-Some.ensures

pub returns-in-None-clause-unreadable : goal.returns-in-None-clause-unreadable
returns-in-None-clause-unreadable c = λ _. message_by c.args.text.now (view c.in-Ok.value) c.in-Ok.ensures.ok.0 c.in-Ok.ensures.ok.1 ∙ sym c.in-None.ensures
