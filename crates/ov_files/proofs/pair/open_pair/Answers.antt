use Rattle.std.proofs.Common.{inr}
use Rattle.ov_files.specs.Calls.{Opening}
use Rattle.ov_store.proofs.AnswerLemmas.{refusal_told}
use Rattle.ov_files.proofs.pair.open_pair.Goals as goal

pub returns-in-Err-clause-refused : goal.returns-in-Err-clause-refused
returns-in-Err-clause-refused g c = inr (c.in-Err.error, refusal_told (Opening c.args.path.now) c.open.result c.in-Err.error c.in-Err.is, c.fault_of_path.ensures)
