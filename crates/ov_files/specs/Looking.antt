-- What a look at a file finds before the file is opened.
use Rattle.std.specs.Prelude.{◌≡◌, ◌≢◌, ◌⊎◌, ◌<◌, ◌++◌, ℕ, List, [], Result, Ok, Err, alloc_error, codes}
use Rattle.std.specs.Fs.{file_type, metadata_len, IsFile}
use Rattle.std.specs.declared.fs.attrs.Metadata.{Metadata}
use Rattle.std.specs.IoError.{error_kind}
use Rattle.std.specs.declared.io.Error.{Error}
use Rattle.std.specs.declared.io.ErrorKind.TheVariants as kind
use Rattle.sqlite_wal.specs.Recovery.{Image}
use Rattle.ov_keeper.specs.declared.fault.KeepFault.{KeepFault}
use Rattle.ov_tables.specs.HasText.{ListsOurs}
use Rattle.ov_files.specs.Calls.{RealPath, Stat, Page, Bytes, Room}
use Rattle.ov_store.specs.Answers.{WasAnswered}
use Rattle.ov_files.specs.Refusing.{IsSystemFault}
use Rattle.ov_files.specs.Causes.{IsCopyRefused, IsNobodyElses}

-- the path of the log beside a file
abbrev pub log_of : List ℕ → List ℕ
log_of db = db ++ codes "-wal"

-- an allocation failed, and this is the error for it
abbrev pub HasNoRoom : Error → Type 0
HasNoRoom e = WasAnswered Room alloc_error × (error_kind e ≡ kind.OutOfMemory)

-- there is a regular file of this size
abbrev pub HasSize : List ℕ → ℕ → Type 0
HasSize path size =
    (found : Metadata) × WasAnswered {A = Result Metadata Error} (Stat path) (Ok found) × IsFile (file_type found)
    × (size ≡ metadata_len found)

-- there is no regular file, or the system does not say
abbrev pub HasNoSize : List ℕ → Error → Type 0
HasNoSize path e =
    WasAnswered {A = Result Metadata Error} (Stat path) (Err e)
    ⊎ ((found : Metadata) × WasAnswered {A = Result Metadata Error} (Stat path) (Ok found)
    × (¬ IsFile (file_type found)) × (error_kind e ≡ kind.Unsupported))

-- the log has this size, or there is none and it is 0
abbrev pub HasLogSize : List ℕ → ℕ → Type 0
HasLogSize log size = HasSize log size ⊎ ((size ≡ 0) × ((e : Error) × HasNoSize log e × (error_kind e ≡ kind.NotFound)))

-- the first page has the texts of the tables of a format
pub record ListsTables (db : List ℕ) : Type 0 where
  pub page : List ℕ
  pub answer : WasAnswered {A = Result (List ℕ) Error} (Page db) (Ok page)
  pub lists : ListsOurs page

-- the first page was not read, and that not because the file is shorter
abbrev pub HasNoPage : List ℕ → Error → Type 0
HasNoPage db e = WasAnswered {A = Result (List ℕ) Error} (Page db) (Err e) × (error_kind e ≢ kind.UnexpectedEof)

-- the log has no commit, and the file is empty or lists the tables of a format
pub record IsPlain (db : List ℕ) : Type 0 where
  pub size : ℕ
  pub log : HasLogSize (log_of db) size
  pub short : size < 56
  pub file : HasSize db 0 ⊎ ListsTables db

-- all bytes of the file at a path were read
abbrev pub HasBytes : List ℕ → List ℕ → Type 0
HasBytes path bytes = WasAnswered {A = Result (List ℕ) Error} (Bytes path) (Ok bytes)

-- or the read failed
abbrev pub IsUnread : List ℕ → Error → Type 0
IsUnread path e = WasAnswered {A = Result (List ℕ) Error} (Bytes path) (Err e)

-- these are the bytes that were read of the file and of its log, if there is one that is not empty
pub record WasRead (db : List ℕ) (copy : Image) : Type 0 where
  pub file : HasBytes db copy.db
  pub log : HasBytes (log_of db) copy.log ⊎ ((copy.log ≡ []) × HasLogSize (log_of db) 0)

-- a call of the look failed with this error: for memory, for the file, for its first page, for its log, for their bytes. That
-- a log is absent or a page short is no failure.
abbrev pub FailsToLook : List ℕ → Error → Type 0
FailsToLook db e =
    HasNoRoom e ⊎ (HasNoSize db e ⊎ (HasNoPage db e
    ⊎ ((HasNoSize (log_of db) e × (error_kind e ≢ kind.NotFound)) ⊎ (IsUnread db e ⊎ IsUnread (log_of db) e))))

-- why a file may be opened
abbrev pub MayBeOpenedAt : List ℕ → Type 0
MayBeOpenedAt db = IsPlain db ⊎ ((copy : Image) × WasRead db copy × IsNobodyElses copy)

-- why a file is refused unopened
abbrev pub IsRefusedAt : List ℕ → KeepFault → Type 0
IsRefusedAt db fault =
    ((e : Error) × FailsToLook db e × IsSystemFault e fault) ⊎ ((copy : Image) × WasRead db copy × IsCopyRefused copy fault)

-- the same of a path that may have links in it: where there is no file, one may be made
abbrev pub MayBeOpened : List ℕ → Type 0
MayBeOpened path =
    ((e : Error) × WasAnswered {A = Result (List ℕ) Error} (RealPath path) (Err e) × (error_kind e ≡ kind.NotFound))
    ⊎ ((real : List ℕ) × WasAnswered {A = Result (List ℕ) Error} (RealPath path) (Ok real) × MayBeOpenedAt real)

-- and any other failure refuses it
abbrev pub IsLookRefused : List ℕ → KeepFault → Type 0
IsLookRefused path fault =
    ((e : Error) × WasAnswered {A = Result (List ℕ) Error} (RealPath path) (Err e) × (error_kind e ≢ kind.NotFound)
    × IsSystemFault e fault)
    ⊎ ((real : List ℕ) × WasAnswered {A = Result (List ℕ) Error} (RealPath path) (Ok real) × IsRefusedAt real fault)
