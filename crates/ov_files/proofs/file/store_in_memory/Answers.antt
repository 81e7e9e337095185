use Rattle.std.proofs.Common.{refl}
use Rattle.std.proofs.lemmas.Result.{IfOk-weaker}
use Rattle.sqlite_pool.specs.Pool.{state}
use Rattle.sqlite_trees.proofs.Doubt.{no_doubt}
use Rattle.sqlite.specs.Files.{over_files}
use Rattle.ov_files.proofs.FileLemmas.{new_of_blank, memory_refused}
use Rattle.ov_files.proofs.file.store_in_memory.Goals as goal

pub returns-clause-found : goal.returns-clause-found
unfolding state
returns-clause-found c =
    let connection = c.in-Ok.connection in
    IfOk-weaker c.store_over_files.result _ _ (λ s store. (new_of_blank over_files c.args.schema connection s c.in-Ok.ensures.empty.2 store).holds (no_doubt _ refl)) c.store_over_files.ensures.store

pub returns-clause-refused : goal.returns-clause-refused
returns-clause-refused c = memory_refused c.args.schema c.in-Ok.connection c.store_over_files.result c.in-Ok.ensures.empty c.store_over_files.ensures.refused

-- whatever was called, a file in memory is clean
pub returns-in-Err-clause-honest : goal.returns-in-Err-clause-honest
unfolding state
returns-in-Err-clause-honest c s = no_doubt _ refl

pub returns-clause-honest : goal.returns-clause-honest
unfolding state
returns-clause-honest c s = no_doubt _ refl
