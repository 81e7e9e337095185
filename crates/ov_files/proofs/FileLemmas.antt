-- From a store of a connection to what its files hold.
use Rattle.std.proofs.Common.{◌≡◌, ◌⊎◌, inl, inr, ℕ, List, sym, subst, Result, Ok, Err, IfErr}
use Rattle.sqlite.specs.Store.{Ghosts}
use Rattle.sqlite.specs.Effect.{Database}
use Rattle.sqlite.specs.Schema.{Schema}
use Rattle.sqlite.specs.State.{State, HasCleanDisk, Opens, IsLive}
use Rattle.sqlite.specs.Held.{Held as Connected, state, IsNew}
use Rattle.sqlite.specs.Start.{FindsIn}
use Rattle.sqlite.specs.Files.{AreFoundIn, IsOpened, over_files, file_state}
use Rattle.sqlite.specs.Steps.{IsEmpty}
use Rattle.sqlite_disk.specs.declared.Disk as disk
use Rattle.sqlite_store.specs.declared.store.FileStore.{FileStore}
use Rattle.ov_keeper.specs.declared.fault.KeepFault.{KeepFault}
use Rattle.sqlite_wal.specs.Recovery.{Image}
use Rattle.ov_specs.specs.rows.Cells.{Stored}
use Rattle.ov_tables.specs.Tables.{no_schema, HasOurTables}
use Rattle.ov_store.specs.StoreState.{StoreState, MayFind, text_in}
use Rattle.ov_store.specs.Finding.{new_contents, IsNewStore, IsStoreOf, IsRefused}
use Rattle.ov_files.specs.Found.{HasNoTable, IsStoredIn, IsPathRefused, IsMemoryRefused}
use Rattle.ov_files.specs.Causes.{IsNobodyElses}

pub no_tables : (schema : Schema) → schema ≡ no_schema → ¬ HasOurTables schema
no_tables schema blank (inl has) = let none = (rw blank at has).meta.named in absurd cc
no_tables schema blank (inr has) = let none = (rw blank at has).meta.named in absurd cc

-- what was opened and has a schema that passes is not foreign
pub nobody_elses : (seen : Image) (log db : List ℕ) (s : State) → Opens s → IsLive s → AreFoundIn seen s.committed.trees → seen.log ≡ log → seen.db ≡ db
    → (schema : Schema) → schema ≡ s.now.schema → (schema ≡ no_schema) ⊎ HasOurTables schema → IsNobodyElses (record { log = log; db = db })
nobody_elses seen log db s opens live found is_log is_db schema is ours =
    let image : seen ≡ record { log = log; db = db } = λ i. record { log = is_log i; db = is_db i } in
    record {
      db = s.now;
      sound = (live opens.is_open).0;
      found = subst (λ (i : Image). AreFoundIn i s.now.trees) image (subst (λ (d : Database). AreFoundIn seen d.trees) (sym opens.clean) found);
      ours = subst (λ (it : Schema). (it ≡ no_schema) ⊎ HasOurTables it) is ours;
    }

module _ {S : Type 0} (g : Ghosts S) where
  -- a store of a connection that had no table is new
  pub new_of_blank : (text : List ℕ) (c : Connected S) (s : StoreState S) → c.schema ≡ no_schema → IsStoreOf g text c s → IsNewStore g text c s
  new_of_blank text c s blank (inl new) = new
  new_of_blank text c s blank (inr old) = absurd (no_tables c.schema blank old.tables)

  -- what an open finds is new, if the files had no table, or what they held
  pub found_in : (image : Image) (text : List ℕ) (c : Connected S) (s : StoreState S) → (HasCleanDisk (state g c) → Opens (state g c) × IsLive (state g c)) → (HasCleanDisk (state g c) → FindsIn image (state g c))
      → IsStoreOf g text c s → HasCleanDisk (state g s.connection) → (contents : Stored) → MayFind g s.connection contents → (HasNoTable image × (contents ≡ new_contents text)) ⊎ IsStoredIn image contents
  found_in image text c s opens finds (inl new) clean contents found =
      let early = new.honest clean in
      let trees = (finds early).reads in
      let it = opens early in
      inl (
        record {
          db = (state g c).now;
          sound = (it.1 it.0.is_open).0;
          found = subst (λ (d : Database). AreFoundIn image d.trees) (sym it.0.clean) trees;
          blank = new.blank;
        },
        new.holds clean contents found,
      )
  found_in image text c s opens finds (inr old) clean contents found =
      let early = old.honest clean in
      let trees = (finds early).reads in
      let it = opens early in
      inr (record {
        db = (state g c).now;
        sound = (it.1 it.0.is_open).0;
        found = subst (λ (d : Database). AreFoundIn image d.trees) (sym it.0.clean) trees;
        text = text_in (state g c).now;
        format = old.format clean;
        contents_are = old.holds clean it.0 contents found;
      })

module _ {D : Type 0} {g : disk.Ghosts D} where
  -- a store that is refused over what was opened and found is refused of the file
  pub path_refused : {T : Type 0} (path : List ℕ) (image : Image) (text : List ℕ) (c : Connected (FileStore D g)) (r : Result T KeepFault) → IsNew c → (HasCleanDisk (file_state c) → IsOpened c) → (HasCleanDisk (file_state c) → FindsIn image (file_state c))
      → IfErr r (λ fault. (left : Connected (FileStore D g)) × IsRefused over_files text c left fault) → IfErr r (IsPathRefused g path image text)
  path_refused path image text c (Ok s) fresh opened holds refused = tt
  path_refused path image text c (Err fault) fresh opened holds refused = inr (c, refused.0, record { fresh = fresh; opened = opened; holds = holds; refused = refused.1 })

  -- and one that is refused over nothing, of memory
  pub memory_refused : (text : List ℕ) (c : Connected (FileStore D g)) (r : Result (StoreState (FileStore D g)) KeepFault) → IsEmpty (file_state c)
      → IfErr r (λ fault. (left : Connected (FileStore D g)) × IsRefused over_files text c left fault) → IsMemoryRefused text r
  memory_refused text c (Ok s) empty refused = tt
  memory_refused text c (Err fault) empty refused = inr (c, refused.0, empty, refused.1)
