-- What a file, files in memory, and what a crash left are found to hold, and why they have no store.
use Rattle.std.specs.Prelude.{◌≡◌, ◌⊎◌, ℕ, List, [], Result, Ok, Err}
use Rattle.sqlite.specs.Store.{Ghosts}
use Rattle.sqlite.specs.declared.error.Error.{Error}
use Rattle.sqlite.specs.State.{HasCleanDisk, Opens}
use Rattle.sqlite.specs.Held.{Held as Connected, state, IsNew}
use Rattle.sqlite.specs.Effect.{Database, IsDatabase}
use Rattle.sqlite.specs.Files.{AreFoundIn, IsOpened, over_files, file_state}
use Rattle.sqlite.specs.Start.{FindsIn}
use Rattle.sqlite.specs.Steps.{IsEmpty}
use Rattle.sqlite_disk.specs.declared.Disk as disk
use Rattle.sqlite_store.specs.declared.store.FileStore.{FileStore}
use Rattle.sqlite_wal.specs.Recovery.{Image}
use Rattle.ov_specs.specs.rows.Cells.{Stored}
use Rattle.ov_keeper.specs.declared.fault.KeepFault.{KeepFault}
use Rattle.ov_keeper.specs.declared.fault.KeepFault.TheVariants.{NotOurs, Format}
use Rattle.ov_tables.specs.Tables.{no_schema, HasOurTables}
use Rattle.ov_tables.specs.Format.{IsFormat, stored_in}
use Rattle.ov_store.specs.Finding.{IsForeign, IsRefused}
use Rattle.ov_store.specs.StoreState.{StoreState, MayFind}
use Rattle.ov_files.specs.Refusing.{fault_of_open}
use Rattle.ov_files.specs.Causes.{IsErrorInMemory, IsUnopened, FailsToBegin}
use Rattle.ov_files.specs.Looking.{IsLookRefused}

-- what the files recover to has no table, index or view
pub record HasNoTable (image : Image) : Type 0 where
  pub db : Database
  pub sound : IsDatabase db
  pub found : AreFoundIn image db.trees
  pub blank : db.schema ≡ no_schema

-- what the files recover to is of a stored format, and these are its contents
pub record IsStoredIn (image : Image) (contents : Stored) : Type 0 where
  pub db : Database
  pub sound : IsDatabase db
  pub found : AreFoundIn image db.trees
  pub text : List ℕ
  pub format : IsFormat text db
  pub contents_are : contents ≡ stored_in db.trees

module _ {D : Type 0} {g : disk.Ghosts D} where
  -- SQLite opened the files and found what they held, which has no store
  pub record IsFoundRefused (image : Image) (text : List ℕ) (fault : KeepFault)
      (found left : Connected (FileStore D g)) : Type 0 where
    pub fresh : IsNew found
    pub opened : HasCleanDisk (file_state found) → IsOpened found
    pub holds : HasCleanDisk (file_state found) → FindsIn image (file_state found)
    pub refused : IsRefused over_files text found left fault

module _ {D : Type 0} (g : disk.Ghosts D) where
  -- a refusal of the file at a path is one of three: by the look at it, as it was opened, or of what was found in it
  abbrev pub IsPathRefused : List ℕ → Image → List ℕ → KeepFault → Type 0
  IsPathRefused path image text fault =
      (IsLookRefused path fault ⊎ IsUnopened g path image fault)
      ⊎ ((found : Connected (FileStore D g)) × (left : Connected (FileStore D g)) × IsFoundRefused image text fault found left)

module _ {D : Type 0} {g : disk.Ghosts D} where
  -- a refusal in memory is of the empty files, or of a connection that has no table
  abbrev pub IsMemoryRefused : List ℕ → Result (StoreState (FileStore D g)) KeepFault → Type 0
  IsMemoryRefused text (Ok s) = Unit {0}
  IsMemoryRefused text (Err fault) =
      ((error : Error) × FailsToBegin g error × IsErrorInMemory (record { log = []; db = [] }) error
      × (fault ≡ fault_of_open error))
      ⊎ ((found : Connected (FileStore D g)) × (left : Connected (FileStore D g)) × IsEmpty (file_state found)
      × IsRefused over_files text found left fault)

module _ {S : Type 0} (g : Ghosts S) where
  -- why what a crash left of a store is not one: it is among the contents that an open might find, and these are refused
  pub record IsRefusedAgain (s : StoreState S) (left : Connected S) (fault : KeepFault) : Type 0 where
    pub again : Connected S
    pub opened : HasCleanDisk (state g again)
        → Opens (state g again) × MayFind g s.connection (stored_in (state g again).now.trees)
    pub ours : fault ≡ NotOurs → IsForeign g again left
    pub foreign : ¬ HasOurTables again.schema → fault ≡ NotOurs
    pub format : fault ≡ Format → HasCleanDisk (state g left) → (any : List ℕ) → ¬ IsFormat any (state g again).now
