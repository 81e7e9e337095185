use Rattle.std.proofs.Common.{refl}
use Rattle.sqlite_pool.specs.Pool.{state}
use Rattle.sqlite_trees.proofs.Doubt.{no_doubt}
use Rattle.sqlite.specs.State.{HasCleanDisk}
use Rattle.sqlite.specs.Files.{file_state}
use Rattle.ov_files.proofs.CauseLemmas.{copy_refused, foreign_refused}
use Rattle.ov_files.proofs.FileLemmas.{nobody_elses}
use Rattle.ov_tables.proofs.KeepLemmas.{on_ok}
use Rattle.ov_files.proofs.look.test_copies.Goals as goal

pub returns-in-Ok-clause-passes : goal.returns-in-Ok-clause-passes
unfolding state
returns-in-Ok-clause-passes c =
    let now = file_state c.in-Ok.connection in
    let clean : HasCleanDisk now = no_doubt _ refl in
    let opened = c.in-Ok.ensures.opened clean in
    on_ok c.test_over_files.result c.test_over_files.ensures.passes
    (nobody_elses _ _ _ now opened.0 opened.1 (c.in-Ok.ensures.found clean).reads c.holding.ensures.holds c.holding-2.ensures.holds _ refl)

pub returns-in-Ok-clause-refused : goal.returns-in-Ok-clause-refused
unfolding state
returns-in-Ok-clause-refused c =
    let now = file_state c.in-Ok.connection in
    let clean : HasCleanDisk now = no_doubt _ refl in
    let opened = c.in-Ok.ensures.opened clean in
    foreign_refused _ _ _ now opened.0 opened.1 (c.in-Ok.ensures.found clean).reads c.holding.ensures.holds c.holding-2.ensures.holds _ refl c.test_over_files.result c.test_over_files.ensures.foreign

pub returns-in-Err-clause-refused : goal.returns-in-Err-clause-refused
returns-in-Err-clause-refused c =
    rw c.fault_of_open.ensures (copy_refused _ _ _ c.in-Err.error c.in-Err.ensures.told c.in-Err.ensures.cause c.holding.ensures.holds c.holding-2.ensures.holds)
