-- The fault for an error at an open.
use Rattle.std.specs.Prelude.{◌≡◌, ◌≢◌, ◌⊎◌}
use Rattle.std.specs.IoError.{error_kind}
use Rattle.std.specs.declared.io.Error.{Error as IoError}
use Rattle.std.specs.declared.io.ErrorKind.TheVariants as kind
use Rattle.sqlite_std_file.specs.declared.pair.OpenError.{OpenError}
use Rattle.sqlite_std_file.specs.declared.pair.OpenError.TheVariants as pair
use Rattle.sqlite.specs.declared.error.ErrorCode.TheVariants.{OutOfMemory, TooBig, NotADatabase, DatabaseCorrupt}
use Rattle.sqlite.specs.declared.error.Error.{Error}
use Rattle.sqlite.specs.declared.error.Error.TheVariants.{SqliteFailure}
use Rattle.ov_keeper.specs.declared.fault.KeepFault.{KeepFault}
use Rattle.ov_keeper.specs.declared.fault.KeepFault.TheVariants.{Memory, Device, NotOurs, TooLarge}

-- the fault for an error of the system
abbrev pub IsSystemFault : IoError → KeepFault → Type 0
IsSystemFault e fault =
    ((fault ≡ Memory) × (error_kind e ≡ kind.OutOfMemory)) ⊎ ((fault ≡ Device) × (error_kind e ≢ kind.OutOfMemory))

-- the fault for an error at the opening of a file and its log
abbrev pub IsPathFault : OpenError → KeepFault → Type 0
IsPathFault pair.OutOfMemory fault = fault ≡ Memory
IsPathFault (pair.Io e) fault = IsSystemFault e fault
IsPathFault pair.Busy fault = fault ≡ Device
IsPathFault pair.HotJournal fault = fault ≡ Device

-- an error of SQLite that is neither memory, nor size, nor a file that holds no database is the device's fault
abbrev pub fault_of_open : Error → KeepFault
fault_of_open (SqliteFailure OutOfMemory) = Memory
fault_of_open (SqliteFailure TooBig) = TooLarge
fault_of_open (SqliteFailure NotADatabase) = NotOurs
fault_of_open (SqliteFailure DatabaseCorrupt) = NotOurs
fault_of_open _ = Device
