use Rattle.std.proofs.Common.{ℕ, Vec, Global}
use Rattle.ov_files.specs.Calls.{Bytes}
use Rattle.ov_store.proofs.AnswerLemmas.{value_told, error_told}
use Rattle.ov_files.proofs.copies.bytes_of.Goals as goal

pub returns-in-Ok-clause-bytes : goal.returns-in-Ok-clause-bytes
returns-in-Ok-clause-bytes c = value_told (Bytes c.args.path.now) (λ (v : Vec ℕ Global). v.items) c.read.result c.in-Ok.bytes c.in-Ok.is

pub returns-in-Err-clause-failed : goal.returns-in-Err-clause-failed
returns-in-Err-clause-failed c = error_told _ (Bytes c.args.path.now) c.read.result c.in-Err.error c.in-Err.is
