use Rattle.std.proofs.Common.{ℕ, ◌+◌, Bool, true, cond, List, min, ap₂, subst, sym}
use Rattle.std.proofs.lemmas.Result.{IfOk-weaker}
use Rattle.sqlite_disk.specs.Events.{Event, replay}
use Rattle.sqlite_wal.specs.Files.{image_at}
use Rattle.sqlite_wal.specs.Recovery.{Image}
use Rattle.sqlite.specs.Files.{file_state, IsBlankAs}
use Rattle.sqlite.specs.Start.{FindsIn}
use Rattle.ov_files.proofs.CauseLemmas.{unopened}
use Rattle.ov_files.proofs.file.open_file.Goals as goal

abbrev image : List ℕ → List ℕ → Image
image log db = record { log = log; db = db }

abbrev seen : List ℕ → List ℕ → Bool → List Event → List ℕ
seen log db is_log history = (replay (cond is_log log db) history).seen

abbrev faults : List ℕ → List ℕ → Bool → List Event → ℕ
faults log db is_log history = (replay (cond is_log log db) history).faults

abbrev caught : List ℕ → List ℕ → Bool → List Event → ℕ
caught log db is_log history = (replay (cond is_log log db) history).caught

pub returns-clause-found : goal.returns-clause-found
returns-clause-found g c =
    let start = g.S.Start in
    let (log, db) = c.in_ok-files.ensures.fresh in
    let same = ap₂ image (ap₂ (seen start.log start.db) log.0 log.1) (ap₂ (seen start.log start.db) db.0 db.1) in
    IfOk-weaker c.connect.result _ _ (λ connection finds clean.
    let found = finds clean in
    subst (λ i. FindsIn i (file_state connection)) same (record { holds = found.holds; reads = found.reads })) c.connect.ensures.found

pub returns-clause-sums : goal.returns-clause-sums
returns-clause-sums g c =
    let start = g.S.Start in
    let (log, db) = c.in_ok-files.ensures.fresh in
    let same = ap₂ image (ap₂ (seen start.log start.db) log.0 log.1) (ap₂ (seen start.log start.db) db.0 db.1) in
    IfOk-weaker c.connect.result _ _ (λ connection sums clean blank. sums clean (subst (IsBlankAs true) (sym same) blank)) c.connect.ensures.sums

pub returns-clause-cause : goal.returns-clause-cause
returns-clause-cause g c =
    let start = g.S.Start in
    let (log, db) = c.in_ok-files.ensures.fresh in
    unopened _ c.args.path.now (image_at start) c.in_ok-files.files c.connect.result c.connect.ensures.cause (
      ap₂ image (ap₂ (seen start.log start.db) log.0 log.1) (ap₂ (seen start.log start.db) db.0 db.1),
      ap₂ (λ (a b : ℕ). a + b) (ap₂ (faults start.log start.db) log.0 log.1) (ap₂ (faults start.log start.db) db.0 db.1),
      ap₂ (λ (a b : ℕ). min (a + b) 18446744073709551615) (ap₂ (caught start.log start.db) log.0 log.1) (ap₂ (caught start.log start.db) db.0 db.1),
    )
