use Rattle.std.proofs.lemmas.Result.{err_from_is_err_and}
use Rattle.ov_files.specs.Calls.{Room}
use Rattle.ov_store.proofs.AnswerLemmas.{refusal_told}
use Rattle.ov_files.proofs.copies.log_name.Goals as goal

pub returns-in_err-name-clause-failed : goal.returns-in_err-name-clause-failed
returns-in_err-name-clause-failed c =
    let p = err_from_is_err_and c.from_residual.result c.from_residual.ensures.1 in rw p.1 (refusal_told Room c.from_str.result _ c.in_err-name.was, p.2)

pub returns-in_err-push_str-clause-failed : goal.returns-in_err-push_str-clause-failed
returns-in_err-push_str-clause-failed c =
    let p = err_from_is_err_and c.from_residual-in_err-push_str.result c.from_residual-in_err-push_str.ensures.1 in rw p.1 (refusal_told Room c.push_str.result _ c.in_err-push_str.was, p.2)
