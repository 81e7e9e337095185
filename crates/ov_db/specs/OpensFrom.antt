-- What an open makes of a keeper; for private clauses.
use Rattle.std.specs.Prelude.{◌≡◌, ◌≤◌, Option, None, Ok}
use Rattle.ov_specs.specs.rows.Cells.{Stored}
use Rattle.ov_specs.specs.rows.Database.{Database}
use Rattle.ov_specs.specs.schema.SchemaTypes.{Schema}
use Rattle.ov_specs.specs.values.Uuid.{Uuid}
use Rattle.ov_keeper.specs.declared.fault.KeepFault.TheVariants.{Device}
use Rattle.ov_keeper.specs.declared.keeper.Keeper.{Ghosts}
use Rattle.ov_keeper.specs.Keeping.{HasFailed}
use Rattle.ov_stored.specs.declared.fault.OpenFault.{OpenFault}
use Rattle.ov_stored.specs.declared.fault.OpenFault.TheVariants.{SchemaDiffers, Keeping}
use Rattle.ov_db.specs.Committing.{AreKept, MayBeHeld}
use Rattle.ov_db.specs.Opening.{FindsOne, IsFaultAs, IsReadFault, LeavesOpened, LeavesUnopened, TellsRefusal, opens_as}

module _ {K : Type 0} (k : Ghosts K) (schema : Schema) (version : Option Uuid) (old new : K) where
  -- these rows were opened
  pub record OpensFrom (database : Database) : Type 0 where
    pub format : k.format new ≡ 2
    pub kept : AreKept schema database None
    pub held : k.is_honest new → (held : Stored) → k.leaves old held → opens_as schema version held ≡ Ok database
    pub left : k.is_honest new → LeavesOpened (k.leaves old) (k.leaves new) (opens_as schema version) schema database
    pub found : k.is_honest new → MayBeHeld (k.leaves new) schema database None
    pub honest : k.is_honest new → k.is_honest old

  -- nothing was opened
  pub record RefusesFrom (fault : OpenFault) : Type 0 where
    pub format : k.format new ≡ k.format old
    pub kinds : IsFaultAs version fault
    pub read_kinds : version ≡ None → k.is_honest new → k.format old ≡ 2 → IsReadFault fault
    pub tells : k.is_honest new → (held : Stored) → k.leaves old held → TellsRefusal (opens_as schema version held) fault
    pub left : k.is_honest new → LeavesUnopened (k.leaves old) (k.leaves new) (opens_as schema version) schema fault
    pub one : k.is_honest new → fault ≡ SchemaDiffers → FindsOne (k.leaves old)
    pub cause : fault ≡ Keeping Device → HasFailed (k.failed old) (k.failed new)
    pub counts : k.failed old ≤ k.failed new
    pub honest : k.is_honest new → k.is_honest old
