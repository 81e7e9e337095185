-- What remains of a closed store.
use Rattle.std.specs.Prelude.{◌≡◌, []}
use Rattle.sqlite_disk.specs.declared.Disk as disk
use Rattle.sqlite_disk.specs.declared.Files.{Files}
use Rattle.sqlite_wal.specs.Recovery.{Image}
use Rattle.sqlite_wal.specs.Reads.{AreClean}
use Rattle.sqlite_wal.specs.Files.{outcomes}
use Rattle.sqlite_store.specs.declared.store.FileStore.{FileStore}
use Rattle.sqlite_trees.specs.Tree.{Trees}
use Rattle.sqlite.specs.Files.{HoldsDatabase, image_of, over_files}
use Rattle.ov_specs.specs.rows.Cells.{Stored}
use Rattle.ov_tables.specs.Format.{stored_in}
use Rattle.ov_store.specs.StoreState.{StoreState, MayFind}

module _ {D : Type 0} {g : disk.Ghosts D} where
  -- the database file without its log holds all that an open might find, as it reads now and after a crash
  pub record IsWhole (s : StoreState (FileStore D g)) (files : Files D) : Type 0 where
    pub db : Trees
    pub contents : (contents : Stored) → MayFind over_files s.connection contents → contents ≡ stored_in db
    pub seen : ∥ HoldsDatabase (record (image_of g files) { log = [] }) db ∥₁
    pub left : (image : Image) → outcomes g files.log files.db image → ∥ HoldsDatabase (record image { log = [] }) db ∥₁

  -- the two files were so when they were released
  abbrev pub WasWhole : StoreState (FileStore D g) → Type 0
  WasWhole s = (files : Files D) × (AreClean g files.log files.db → IsWhole s files)
