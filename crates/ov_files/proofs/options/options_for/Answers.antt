use Rattle.std.proofs.Common.{refl}
use Rattle.ov_files.specs.Calls.{Random}
use Rattle.ov_store.proofs.AnswerLemmas.{refusal_told}
use Rattle.ov_files.proofs.options.options_for.Goals as goal

pub returns-in-Err-new-clause-refused : goal.returns-in-Err-new-clause-refused
returns-in-Err-new-clause-refused c = (c.in-Err-new.field-0, refusal_told Random c.new.result _ c.in-Err-new.is, refl)
