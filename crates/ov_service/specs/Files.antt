-- What comes of the database in a file.
use Rattle.std.specs.Prelude.{◌≡◌, ◌⊎◌, ℕ, List, Option, None, Some, Result, Ok, Err, IfOk, IfErr, MatchOption, MatchResult, IsSomeAnd, if◌then◌else◌}
use Rattle.sqlite.specs.Files.{file_state, over_files}
use Rattle.sqlite.specs.State.{HasCleanDisk}
use Rattle.sqlite_disk.specs.declared.Disk as disk
use Rattle.sqlite_store.specs.declared.store.FileStore.{FileStore}
use Rattle.sqlite_wal.specs.Recovery.{Image}
use Rattle.ov_specs.specs.rows.Cells.{Stored}
use Rattle.ov_keeper.specs.declared.fault.KeepFault.{KeepFault}
use Rattle.ov_keeper.specs.Keeping.{IsLoadFault}
use Rattle.ov_db.specs.declared.fault.RefusedOpen.{RefusedOpen}
use Rattle.ov_store.specs.Finding.{new_contents}
use Rattle.ov_store.specs.StoreState.{IsOfItsFormat, MayFind, StoreState}
use Rattle.ov_files.specs.Found.{HasNoTable, IsPathRefused, IsStoredIn}
use Rattle.ov_files.specs.Whole.{WasWhole}
use Rattle.ov_words.specs.declared.ending.Ending.{Ending}
use Rattle.ov_words.specs.Causes.{by_keeping, by_open}
use Rattle.ov_listen.specs.Pipes.{PipesState}
use Rattle.ov_listen.specs.declared.endpoint.Ended.{Ended}
use Rattle.ov_listen.specs.declared.endpoint.Offer.{Offer}
use Rattle.ov_listen.specs.declared.memory.Service.{Service}
use Rattle.ov_listen.specs.Environment.{Environment}
use Rattle.ov_listen.specs.Memory.{offer_of}
use Rattle.ov_listen.specs.Offers.{ServesOffer, RefusesOffer}
use Rattle.ov_service.specs.declared.file.FileEnded.{FileEnded}
use Rattle.ov_service.specs.Closing.{closes_file}

-- how the sessions of a store ended: with the core that served them, or without a core
abbrev pub StoreEnded : Type 0 → Type 0 → Type 0
StoreEnded K D = Result (Ended K D) Ending

-- the ending
abbrev pub ending_of_store : {K D : Type 0} → StoreEnded K D → Ending
ending_of_store (Ok ended) = ended.ending
ending_of_store (Err told) = told

-- the keeper whose file is to be closed: after these endings that of the core
abbrev pub keeper_to_close : {K D : Type 0} → StoreEnded K D → Option K
keeper_to_close (Ok ended) = if closes_file ended.ending then Some ended.core.keeper else None
keeper_to_close (Err told) = None

module _ {K D C : Type 0} (e : Environment K D C) where
  -- A store that was opened came to that with its core; or no core was opened over it, or there was no store, the ending is
  -- that of the fault, and nothing is read or written.
  abbrev pub EndsStore : Result K KeepFault → Offer D → PipesState C → StoreEnded K D → PipesState C → Type 0
  EndsStore (Ok keeper) offer from (Ok ended) to = ServesOffer e keeper offer from ended to
  EndsStore (Ok keeper) offer from (Err told) to = (to ≡ from) × ((refused : RefusedOpen K) × (told ≡ by_open refused.fault) × RefusesOffer e keeper offer refused)
  EndsStore (Err fault) offer from (Ok ended) to = ⊥
  EndsStore (Err fault) offer from (Err told) to = (to ≡ from) × (told ≡ by_keeping fault)

  -- The sessions of a store ended so, and its keeper is kept if its file is to be closed after that.
  pub record EndsKept (store : Result K KeepFault) (offer : Offer D) (from : PipesState C) (ending : Ending) (keeper : Option K) (to : PipesState C) : Type 0 where
    pub ended : StoreEnded K D
    pub ends : EndsStore store offer from ended to
    pub told : ending ≡ ending_of_store ended
    pub kept : keeper ≡ keeper_to_close ended

module _ {A : Type 0} {g : disk.Ghosts A} where
  -- the store of what the files held, or a new one if they had no table; or why there is none at this path
  pub record IsOfFiles (path : List ℕ) (image : Image) (text : List ℕ) (store : Result (StoreState (FileStore A g)) KeepFault) : Type 0 where
    pub found : IfOk store (λ s. HasCleanDisk (file_state s.connection) → (contents : Stored) → MayFind over_files s.connection contents
        → (HasNoTable image × (contents ≡ new_contents text)) ⊎ IsStoredIn image contents)
    pub format : IfOk store (IsOfItsFormat over_files)
    pub fresh : IfOk store (λ s. s.failures ≡ 0)
    pub refused : IfErr store (IsPathRefused g path image text)

  -- A store that was kept is closed: the database file was whole, or there is a fault. Without one nothing is closed.
  abbrev pub ClosesKept : Option (StoreState (FileStore A g)) → Option (Result Unit KeepFault) → Type 0
  ClosesKept keeper closing = MatchOption keeper (closing ≡ None)
      (λ k. IsSomeAnd closing (λ answer. MatchResult answer (λ _. WasWhole k) IsLoadFault))

  -- After these endings the store of the core is closed. A store without a core is not closed.
  abbrev pub IsClosed : {D : Type 0} → StoreEnded (StoreState (FileStore A g)) D → Option (Result Unit KeepFault) → Type 0
  IsClosed ended closing = ClosesKept (keeper_to_close ended) closing

  -- The files had a store or not, and its sessions came to that. It was closed if it was to be. Only a refusal names the path.
  pub record EndsFile {D C : Type 0} (e : Environment (StoreState (FileStore A g)) D C) (path : List ℕ) (image : Image) (service : Service D) (from : PipesState C) (file : FileEnded) (to : PipesState C) : Type 0 where
    pub store : Result (StoreState (FileStore A g)) KeepFault
    pub ended : StoreEnded (StoreState (FileStore A g)) D
    pub opened : IsOfFiles path image service.text store
    pub ends : EndsStore e store (offer_of service) from ended to
    pub ending : file.ending ≡ ending_of_store ended
    pub closed : IsClosed ended file.closing
