-- What contracts see of a store.
use Rattle.std.specs.Prelude.{◌≡◌, ◌⊎◌, ◌≤◌, ℕ, List, IsTrue, false, refl, Option, IfSome}
use Rattle.std.specs.Coded.{Coded, code_by, coded×, coded_ℕ}
use Rattle.sqlite.specs.Store.{Ghosts}
use Rattle.sqlite.specs.Tree.{Trees}
use Rattle.sqlite.specs.Effect.{Database}
use Rattle.sqlite.specs.State.{HasCleanDisk}
use Rattle.sqlite.specs.Change.{KeepsRows}
use Rattle.sqlite.specs.Held.{Held as Connected, held_code, state}
use Rattle.ov_specs.specs.rows.Cells.{Stored, format_of}
use Rattle.ov_keeper.specs.declared.keeper.Loaded.{Loaded}
use Rattle.ov_keeper.specs.Keeping.{loaded_contents}
use Rattle.ov_keeper.specs.Views.{lines_view}
use Rattle.ov_tables.specs.Tables.{row_trees}
use Rattle.ov_tables.specs.Format.{stored_in, stored_schema, rows_of_meta}
use Rattle.ov_tables.specs.Holding.{IsStoredAs, KeepsOthers}
use Rattle.ov_tables.specs.Emptying.{KeepsRest}

-- a connection, the format of its tables, and how often the device has failed
pub record StoreState (S : Type 0) : Type 0 where
  pub connection : Connected S
  pub format : ℕ
  pub failures : ℕ

-- the state of a store, as pairs
abbrev pub store_code : {S : Type 0} → Coded S → Coded (StoreState S)
store_code {S} code =
    code_by ((Connected S × ℕ) × ℕ) (coded× (coded× (held_code code) coded_ℕ) coded_ℕ)
    (λ s. ((s.connection, s.format), s.failures))
    (λ p. record { connection = p.0.0; format = p.0.1; failures = p.1 }) (λ _. refl)

-- the schema's text that `meta` has
abbrev pub text_in : Database → List ℕ
text_in db = stored_schema (rows_of_meta db.trees)

module _ {S : Type 0} (g : Ghosts S) where
  -- what an open at this moment may find
  abbrev pub MayFind : Connected S → Stored → Type 0
  MayFind c contents = (trees : Trees) × (state g c).may_leave trees × (contents ≡ stored_in trees)

  -- the rows that an opening read are of the format, and they are what an open may find
  pub record IsWhatIsFound (c : Connected S) (format : ℕ) (loaded : Loaded) : Type 0 where
    pub of_format : format_of (lines_view loaded.lines) ≡ format
    pub is_found : HasCleanDisk (state g c) → (contents : Stored) → MayFind c contents → contents ≡ loaded_contents loaded

  -- Between calls no transaction is under way. While the connection is open the tables are those of the format, and what an
  -- open may find is of that format, or of a later one if the device failed in a rewrite.
  pub record IsAtRest (c : Connected S) (format : ℕ) (read : Option Loaded) : Type 0 where
    pub mode : c.in_transaction ≡ false
    pub known : (format ≡ 1) ⊎ (format ≡ 2)
    pub stored : HasCleanDisk (state g c) → IsTrue (state g c).is_open
        → IsStoredAs format (text_in (state g c).now) (state g c).now
    pub found : HasCleanDisk (state g c) → (contents : Stored) → MayFind c contents → format ≤ format_of contents.lines
    pub read_is : IfSome read (IsWhatIsFound c format)

  -- whatever an open may find is of the store's format
  abbrev pub IsOfItsFormat : StoreState S → Type 0
  IsOfItsFormat s =
      HasCleanDisk (state g s.connection) → (contents : Stored) → MayFind s.connection contents
      → format_of contents.lines ≡ s.format

  -- apart from the rows that are stored, whatever an open may find now might have been found before
  abbrev pub LeavesOthers : Connected S → Connected S → Type 0
  LeavesOthers old new =
      (trees : Trees) → (state g new).may_leave trees
      → (before : Trees) × (state g old).may_leave before × KeepsOthers (row_trees old.schema) old.schema before trees

  -- apart from the tables of the format, whatever an open may find now might have been found before
  abbrev pub LeavesRest : Connected S → Connected S → Type 0
  LeavesRest old new =
      (trees : Trees) → (state g new).may_leave trees
      → (before : Trees) × (state g old).may_leave before × KeepsRest old.schema before trees

  -- whatever an open may find now has the rows of each former table as an open might have found them before
  abbrev pub LeavesTables : Connected S → Connected S → Type 0
  LeavesTables old new =
      (trees : Trees) → (state g new).may_leave trees
      → (before : Trees) × (state g old).may_leave before × KeepsRows old.schema.tables before trees
