use Rattle.std.proofs.Common.{refl}
use Rattle.sqlite_pool.specs.Pool.{state}
use Rattle.ov_files.specs.Calls.{OpeningCopy}
use Rattle.ov_store.proofs.AnswerLemmas.{paired_told}
use Rattle.ov_files.proofs.CauseLemmas.{clean_left, fails_in_memory}
use Rattle.ov_files.proofs.memory.open_memory_files.Goals as goal

-- whatever was called, a file in memory is clean
pub returns-clause-cause : goal.returns-clause-cause
unfolding state
returns-clause-cause c = rw c.error_in_memory.ensures (fails_in_memory (λ _. refl) c.args.files c.in-Err.field-0-1 c.in-Err.error (c.in-Err.ensures.cause (clean_left (λ _. refl) (λ _. refl) (λ _. refl) c.in-Err.field-0-1)))

pub returns-clause-told : goal.returns-clause-told
returns-clause-told c = (c.in-Err.error, paired_told (OpeningCopy _) c.open_files.result c.in-Err.error c.in-Err.field-0-1 c.in-Err.is, c.error_in_memory.ensures)
