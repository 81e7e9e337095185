-- What the store of a connection that was just opened holds.
use Rattle.std.specs.Prelude.{◌≡◌, ◌≢◌, ◌⊎◌, ℕ, List}
use Rattle.std.specs.FinMap.{empty}
use Rattle.sqlite.specs.Store.{Ghosts}
use Rattle.sqlite.specs.State.{HasCleanDisk, Opens, Survives}
use Rattle.sqlite.specs.Held.{Held as Connected, state}
use Rattle.ov_specs.specs.rows.Cells.{Stored, InCells}
use Rattle.ov_keeper.specs.declared.fault.KeepFault.{KeepFault}
use Rattle.ov_keeper.specs.declared.fault.KeepFault.TheVariants.{Device, NotOurs, Format}
use Rattle.ov_tables.specs.Tables.{no_schema, HasOurTables}
use Rattle.ov_tables.specs.Format.{IsFormat, NamesOther, stored_in}
use Rattle.ov_tables.specs.Making.{IsNewFile}
use Rattle.ov_tables.specs.Querying.{IsAsBefore}
use Rattle.ov_store.specs.Answers.{Making, Testing, WasAnswered}
use Rattle.ov_store.specs.StoreState.{StoreState, MayFind, text_in}

-- a schema text and no rows, in format 2
abbrev pub new_contents : List ℕ → Stored
new_contents text = record { schema = text; lines = InCells empty }

module _ {S : Type 0} (g : Ghosts S) where
  -- the connection had no table, index or view, and the store is new
  pub record IsNewStore (text : List ℕ) (c : Connected S) (s : StoreState S) : Type 0 where
    pub blank : c.schema ≡ no_schema
    pub honest : HasCleanDisk (state g s.connection) → HasCleanDisk (state g c)
    pub holds : HasCleanDisk (state g s.connection) → (contents : Stored) → MayFind g s.connection contents
        → contents ≡ new_contents text

  -- the connection had the tables of a stored format, and the store holds what was there
  pub record IsOldStore (c : Connected S) (s : StoreState S) : Type 0 where
    pub tables : HasOurTables c.schema
    pub honest : HasCleanDisk (state g s.connection) → HasCleanDisk (state g c)
    pub format : HasCleanDisk (state g s.connection) → IsFormat (text_in (state g c).now) (state g c).now
    pub holds : HasCleanDisk (state g s.connection) → Opens (state g c) → (contents : Stored)
        → MayFind g s.connection contents → contents ≡ stored_in (state g c).now.trees

  -- the store is one of the two
  abbrev pub IsStoreOf : List ℕ → Connected S → StoreState S → Type 0
  IsStoreOf text c s = IsNewStore text c s ⊎ IsOldStore c s

  -- a connection is foreign: it has the tables of no format, or these were tested, which left this, and `meta` names the format
  -- whose tables are not there
  abbrev pub IsForeign : Connected S → Connected S → Type 0
  IsForeign c left =
      (¬ HasOurTables c.schema) ⊎ (HasOurTables c.schema × (HasCleanDisk (state g left) → NamesOther (state g c).now))

  -- what the SQL schema alone does not say is the fault with which the making or the testing of the tables stopped
  abbrev pub IsToldOf : Connected S → KeepFault → Type 0
  IsToldOf c fault =
      ((fault ≡ NotOurs) × (c.schema ≢ no_schema) × (¬ HasOurTables c.schema))
      ⊎ (((c.schema ≡ no_schema) × WasAnswered Making fault) ⊎ (HasOurTables c.schema × WasAnswered Testing fault))

  -- why a connection has no store, and what it still holds: what it held before, except that a device that failed while the
  -- tables were made may leave the whole new database
  pub record IsRefused (text : List ℕ) (c left : Connected S) (fault : KeepFault) : Type 0 where
    pub ours : fault ≡ NotOurs → (c.schema ≢ no_schema) × IsForeign c left
    pub foreign : c.schema ≢ no_schema → ¬ HasOurTables c.schema → fault ≡ NotOurs
    pub told : IsToldOf c fault
    pub tables : fault ≡ Format → HasOurTables c.schema
    pub format : fault ≡ Format → HasCleanDisk (state g left) → (any : List ℕ) → ¬ IsFormat any (state g c).now
    pub same : HasCleanDisk (state g left) → IsAsBefore (state g c) (state g left)
    pub crash : Survives (state g c) (state g left) (λ trees. (fault ≡ Device) × (c.schema ≡ no_schema) × IsNewFile text trees)
