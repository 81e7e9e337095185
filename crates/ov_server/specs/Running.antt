-- What the program makes of its arguments.
use Rattle.std.specs.Prelude.{◌≡◌, ℕ, List, Option, Some, None, IfNone, MatchOption}
use Rattle.std.specs.declared.io.ErrorKind.{ErrorKind}
use Rattle.std.specs.declared.io.ErrorKind.TheVariants.{OutOfMemory}
use Rattle.serde_json.specs.Written.{compact_text}
use Rattle.sqlite_disk.specs.declared.Disk as disk
use Rattle.sqlite_store.specs.declared.store.FileStore.{FileStore}
use Rattle.sqlite_wal.specs.Recovery.{Image}
use Rattle.ov_store.specs.StoreState.{StoreState}
use Rattle.ov_words.specs.declared.ending.Ending.{Ending}
use Rattle.ov_words.specs.declared.ending.Ending.TheVariants.{Arguments, Memory}
use Rattle.ov_words.specs.declared.settings.Settings.{Settings}
use Rattle.ov_words.specs.Words.{settings_of}
use Rattle.ov_listen.specs.Pipes.{PipesState}
use Rattle.ov_listen.specs.declared.endpoint.Endpoint.{Endpoint}
use Rattle.ov_listen.specs.declared.endpoint.Endpoint.TheVariants.{Pipes, Address}
use Rattle.ov_listen.specs.declared.memory.Service.{Service}
use Rattle.ov_listen.specs.Environment.{Environment}
use Rattle.ov_listen.specs.Memory.{EndsMemory}
use Rattle.ov_service.specs.declared.database.DatabaseEnded.{DatabaseEnded}
use Rattle.ov_service.specs.Databases.{IsInFile, IsInMemory, MemoryState}
use Rattle.ov_service.specs.Files.{EndsFile}
use Rattle.ov_server.specs.Schemas.{IsBuiltIn}

-- the ending if the system gives no arguments, for an error of this kind
abbrev pub by_lacking_words : ErrorKind → Ending
by_lacking_words OutOfMemory = Memory
by_lacking_words _ = Arguments

-- where sessions are served: at the address, if one is named
abbrev pub endpoint_of : Option (List ℕ) → Option ℕ → Endpoint
endpoint_of None sessions = Pipes
endpoint_of (Some address) sessions = Address address sessions

-- the schema is the built-in one if no file is named, the text is the schema's, and the endpoint is this one
pub record IsServiceAsked {D : Type 0} (file : Option (List ℕ)) (at : Endpoint) (service : Service D) : Type 0 where
  pub schema : IfNone file (IsBuiltIn service.schema)
  pub text : service.text ≡ compact_text service.schema.tree
  pub endpoint : service.endpoint ≡ at

-- what the program is started with: its arguments, what the database's file and its log hold, and its pipes
pub record Invocation (C : Type 0) : Type 0 where
  pub words : List (List ℕ)
  pub image : Image
  pub pipes : PipesState C

-- The arguments give settings, and what they ask for was served: a database in memory if no file is named, and otherwise the
-- one in the file.
pub record RunsDatabase {A D C : Type 0} {g : disk.Ghosts A} (memory : Environment MemoryState D C)
    (files : Environment (StoreState (FileStore A g)) D C) (start : Invocation C) (ended : DatabaseEnded D)
    (to : PipesState C) : Type 0 where
  pub settings : Settings
  pub given : settings_of start.words ≡ Some settings
  pub service : Service D
  pub asked : IsServiceAsked settings.schema (endpoint_of settings.listen settings.sessions) service
  pub ends : MatchOption settings.db (IsInMemory ended (λ e. EndsMemory memory service start.pipes e to))
      (λ at. IsInFile ended (λ e. EndsFile files at start.image service start.pipes e to))
