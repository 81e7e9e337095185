use Rattle.ov_specs.proofs.laws.Queueing.{sent_to_open}
use Rattle.ov_laws.proofs.only_open_sessions_are_sent_to.Goals as goal

pub returns : goal.returns
returns c schema database history before after entry h k = sent_to_open schema database history before h entry after k
