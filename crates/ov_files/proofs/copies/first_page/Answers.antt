use Rattle.std.proofs.Common.{Ok}
use Rattle.ov_files.specs.Calls.{Page}
use Rattle.ov_store.specs.Answers.{was_answered}
use Rattle.ov_store.proofs.AnswerLemmas.{error_told}
use Rattle.ov_files.proofs.copies.first_page.Goals as goal

pub returns-in-Ok-read_exact : goal.returns-in-Ok-read_exact
returns-in-Ok-read_exact c = was_answered (Page c.args.path.now) (Ok c.read_exact.new.buf)

pub returns-in-Ok : goal.returns-in-Ok
returns-in-Ok c = error_told _ (Page c.args.path.now) c.read_exact.result c.in-Err-read_exact.error c.in-Err-read_exact.is

pub returns : goal.returns
returns c = error_told _ (Page c.args.path.now) c.open.result c.in-Err.error c.in-Err.is
