-- Why files are refused at an open, by what the program answers.
use Rattle.std.specs.Prelude.{◌≡◌, ◌≢◌, ◌⊎◌, ◌<◌, ℕ, List, ⊤, IsTrue, codes, eqb}
use Rattle.std.specs.List.{starts_with}
use Rattle.std.specs.declared.io.Error.{Error as IoError}
use Rattle.sqlite_std_file.specs.declared.pair.OpenError.{OpenError}
use Rattle.sqlite.specs.declared.error.ErrorCode.TheVariants.{OutOfMemory, NotADatabase, DatabaseCorrupt, DiskFull, SystemIoFailure}
use Rattle.sqlite.specs.declared.error.Error.{Error}
use Rattle.sqlite.specs.declared.error.Error.TheVariants.{SqliteFailure}
use Rattle.sqlite.specs.declared.file.Leftover.{Leftover}
use Rattle.sqlite.specs.Effect.{Database, IsDatabase}
use Rattle.sqlite.specs.Files.{HoldsDatabase, IsNothing, AreFoundIn, image_of, FailsToOpenFiles, IsCleanLeft, IsFullLeft, faults_left, tally_left}
use Rattle.sqlite.specs.Opening.{is_open_error}
use Rattle.sqlite_disk.specs.declared.Disk as disk
use Rattle.sqlite_disk.specs.declared.Files.{Files}
use Rattle.sqlite_trees.specs.Tree.{Trees}
use Rattle.sqlite_wal.specs.Recovery.{Image}
use Rattle.ov_keeper.specs.declared.fault.KeepFault.{KeepFault}
use Rattle.ov_keeper.specs.declared.fault.KeepFault.TheVariants.{Memory, Device, NotOurs}
use Rattle.ov_files.specs.Calls.{Opening, Random, Connecting, OpeningCopy}
use Rattle.ov_store.specs.Answers.{WasAnswered}
use Rattle.ov_files.specs.Refusing.{fault_of_open, IsPathFault}
use Rattle.ov_tables.specs.Tables.{no_schema, HasOurTables}

-- the files hold a database, or none has been made yet
abbrev pub IsOpenable : Image → Type 0
IsOpenable image = ((db : Trees) × HoldsDatabase image db) ⊎ IsNothing image

-- what the files recover to is foreign: it has a table, an index or a view, but not the tables of a format
pub record IsSomebodyElses (image : Image) : Type 0 where
  pub db : Database
  pub sound : IsDatabase db
  pub found : AreFoundIn image db.trees
  pub some : db.schema ≢ no_schema
  pub foreign : ¬ HasOurTables db.schema

-- what the files recover to is not foreign: it has no table, index or view, or it has the tables of a format
pub record IsNobodyElses (image : Image) : Type 0 where
  pub db : Database
  pub sound : IsDatabase db
  pub found : AreFoundIn image db.trees
  pub ours : (db.schema ≡ no_schema) ⊎ HasOurTables db.schema

-- a file in memory fails only if it cannot grow
abbrev pub error_in_memory : Error → Error
error_in_memory (SqliteFailure SystemIoFailure) = SqliteFailure OutOfMemory
error_in_memory e = e

-- SQLite refused files in memory that hold this, with this error in its name for them
abbrev pub IsErrorInMemory : Image → Error → Type 0
IsErrorInMemory image e = (below : Error) × WasAnswered (OpeningCopy image) below × (e ≡ error_in_memory below)

-- what a refusal by SQLite of files in memory says of them; `Device` is named if they are at a limit of SQLite
abbrev pub SaysOfCopy : Image → KeepFault → Type 0
SaysOfCopy copy Memory = ⊤
SaysOfCopy copy Device = ⊤
SaysOfCopy copy NotOurs = ¬ IsOpenable copy
SaysOfCopy copy _ = ⊥

-- why a copy in memory of a file and its log is refused: SQLite did not open it, or it is foreign
abbrev pub IsCopyRefused : Image → KeepFault → Type 0
IsCopyRefused copy fault =
    ((e : Error) × IsErrorInMemory copy e × (fault ≡ fault_of_open e) × SaysOfCopy copy fault)
    ⊎ ((fault ≡ NotOurs) × IsSomebodyElses copy)

-- a path that SQLite takes for something else than the name of a file: for a database in memory, or a URI
abbrev pub IsReserved : List ℕ → Type 0
IsReserved path = (path ≡ codes ":memory:") ⊎ IsTrue (starts_with eqb path (codes "file:"))

-- the system gave no random number
abbrev pub IsDrawRefused : KeepFault → Type 0
IsDrawRefused fault = (e : IoError) × WasAnswered Random e × (fault ≡ Device)

-- the path is reserved, or the system did not open the file at it and its log
abbrev pub IsPairRefused : List ℕ → KeepFault → Type 0
IsPairRefused path fault =
    (IsReserved path × (fault ≡ Device)) ⊎ ((e : OpenError) × WasAnswered (Opening path) e × IsPathFault e fault)

-- the fault is that of the error with which SQLite did not open files that held this
abbrev pub IsOpenRefused : Image → KeepFault → Type 0
IsOpenRefused image fault =
    (error : Error) × WasAnswered (Connecting image) error × IsTrue (is_open_error error) × (fault ≡ fault_of_open error)

module _ {D : Type 0} {g : disk.Ghosts D} where
  -- a call on the files failed
  abbrev pub HasFault : Leftover D g → Type 0
  HasFault left = 0 < faults_left left

  -- a read returned other bytes than those that had been read or written there
  abbrev pub HasCaught : Leftover D g → Type 0
  HasCaught left = (tally_left left).caught ≢ 0

  -- for files that held this, what is left explains the fault
  abbrev pub Explains : Image → Leftover D g → KeepFault → Type 0
  Explains image left Memory = ⊤
  Explains image left Device = HasFault left ⊎ IsFullLeft left
  Explains image left NotOurs = (¬ IsOpenable image) ⊎ (HasFault left × HasCaught left)
  Explains image left _ = ⊥

module _ {D : Type 0} (g : disk.Ghosts D) where
  -- SQLite did not open files: it answered with this error, whose fault it is, and if their device was honest, what is left of
  -- them explains it
  pub record FailsToConnect (files : Files D) (fault : KeepFault) : Type 0 where
    pub error : Error
    pub answer : WasAnswered (Connecting (image_of g files)) error
    pub named : IsTrue (is_open_error error)
    pub is : fault ≡ fault_of_open error
    pub left : Leftover D g
    pub cause : IsCleanLeft left → FailsToOpenFiles files left error

  -- why the file at a path was not opened, if the files held this: the system refused them, or a random number for the log,
  -- or SQLite answered with an error, and what is left of them explains the fault, if their device was honest
  abbrev pub IsUnopened : List ℕ → Image → KeepFault → Type 0
  IsUnopened path image fault = (IsDrawRefused fault ⊎ IsPairRefused path fault)
      ⊎ (IsOpenRefused image fault × ((left : Leftover D g) × (IsCleanLeft left → Explains image left fault)))

  -- files are at a limit of SQLite
  abbrev pub MeetsLimit : Error → Type 0
  MeetsLimit e = (e ≡ SqliteFailure DiskFull) × ((left : Leftover D g) × IsFullLeft left)

  -- why files in memory that held this are not opened
  abbrev pub FailsInMemory : Image → Error → Type 0
  FailsInMemory image e =
      (e ≡ SqliteFailure OutOfMemory)
      ⊎ ((((e ≡ SqliteFailure NotADatabase) ⊎ (e ≡ SqliteFailure DatabaseCorrupt)) × (¬ IsOpenable image)) ⊎ MeetsLimit e)

  -- why empty files in memory are not opened
  abbrev pub FailsToBegin : Error → Type 0
  FailsToBegin e = (e ≡ SqliteFailure OutOfMemory) ⊎ MeetsLimit e
