use Rattle.std.proofs.Common.{refl, inl, length, ap, subst}
use Rattle.sqlite_pool.specs.Pool.{state}
use Rattle.sqlite_trees.proofs.Doubt.{no_doubt}
use Rattle.sqlite.specs.State.{HasCleanDisk}
use Rattle.sqlite.specs.Files.{file_state}
use Rattle.sqlite_wal.specs.Recovery.{Image}
use Rattle.ov_files.specs.Causes.{IsErrorInMemory}
use Rattle.ov_files.proofs.CauseLemmas.{fails_to_begin}
use Rattle.ov_files.proofs.EmptyLemmas.{opens_empty}
use Rattle.ov_files.proofs.memory.open_in_memory.Goals as goal

pub returns-in-Ok-clause-clean : goal.returns-in-Ok-clause-clean
unfolding state
returns-in-Ok-clause-clean c = no_doubt _ refl

pub returns-in-Ok-clause-empty : goal.returns-in-Ok-clause-empty
unfolding state
returns-in-Ok-clause-empty c =
    let clean : HasCleanDisk (file_state c.in-Ok.connection) = no_doubt _ refl in
    let opened = c.in-Ok.ensures.opened clean in
    opens_empty _ (file_state c.in-Ok.connection) c.new-2.ensures.empty opened.0 opened.1 (c.in-Ok.ensures.found clean).reads

pub returns-in-Err-clause-cause : goal.returns-in-Err-clause-cause
returns-in-Err-clause-cause c = fails_to_begin _ c.in-Err.error (inl (inl (ap length c.new-2.ensures.empty))) c.in-Err.ensures.cause

pub returns-in-Err-clause-told : goal.returns-in-Err-clause-told
returns-in-Err-clause-told c = subst (λ (i : Image). IsErrorInMemory i c.in-Err.error) (λ i. record { log = c.new.ensures.empty i; db = c.new-2.ensures.empty i }) c.in-Err.ensures.told
