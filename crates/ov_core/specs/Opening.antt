-- How opening a core changes its keeper.
use Rattle.std.specs.Prelude.{◌≡◌, ◌≢◌, ◌≤◌, [], Option, None, Ok, option_to_list}
use Rattle.serde_json.specs.Written.{compact_text}
use Rattle.ov_specs.specs.conversion.Converted.{stored_of}
use Rattle.ov_specs.specs.rows.Cells.{Stored}
use Rattle.ov_specs.specs.schema.SchemaTypes.{Schema}
use Rattle.ov_specs.specs.machine.Machine.{opening}
use Rattle.ov_specs.specs.values.Uuid.{Uuid}
use Rattle.ov_keeper.specs.declared.fault.KeepFault.TheVariants.{Device}
use Rattle.ov_keeper.specs.declared.keeper.Keeper.{Ghosts}
use Rattle.ov_keeper.specs.Keeping.{HasFailed}
use Rattle.ov_stored.specs.declared.fault.OpenFault.TheVariants.{SchemaDiffers, Keeping}
use Rattle.ov_db.specs.declared.fault.RefusedOpen.{RefusedOpen}
use Rattle.ov_db.specs.KeptDatabase.{KeptDatabase}
use Rattle.ov_db.specs.Opening.{IsFaultAs, IsReadFault, LeavesOpened, LeavesUnopened, TellsRefusal, opens_as}
use Rattle.ov_requests.specs.Drawing.{DrawsFrom}
use Rattle.ov_core.specs.Following.{CoreState, Follows, none_given}

-- whatever an open may find has another text than the schema's
abbrev pub FindsAnother : (Stored → Type 0) → Schema → Type 0
FindsAnother leaves schema = (held : Stored) → leaves held → held.schema ≢ compact_text schema.tree

module _ {K D : Type 0} (k : Ghosts K) (draws : D → Uuid → D → Type 0) (keeper : K) (schema : Schema) (source : D) where
  -- The database is what an open gives of what the keeper held: without a conversion, and nothing was drawn; or, if another
  -- text than the schema's was held, converted in a commit of the one version that was drawn (RFC 4122, 4.1.2).
  pub record OpensDatabase (database : KeptDatabase K) (after : D) : Type 0 where
    pub version : Option Uuid
    pub drawn : DrawsFrom draws source (option_to_list version) after
    pub another : k.is_honest database.keeper → version ≢ None → FindsAnother (k.leaves keeper) schema
    pub held : k.is_honest database.keeper → (held : Stored) → k.leaves keeper held
        → opens_as schema version held ≡ Ok database.committed
    pub left : k.is_honest database.keeper
        → LeavesOpened (k.leaves keeper) (k.leaves database.keeper) (opens_as schema version) schema database.committed
    pub honest : k.is_honest database.keeper → k.is_honest keeper

  -- the core has that database, no session and no history, and an open now finds the database, in format 2
  pub record OpensCore (core : CoreState K D) : Type 0 where
    pub start : Follows (opening schema core.state.database) [] none_given core
    pub none_open : core.open_sessions ≡ []
    pub schema_is : core.state.schema ≡ schema
    -- no try was counted, and the failures are those that the keeper has counted
    pub tries : core.tries ≡ 0
    pub failures : core.failures ≡ k.failed core.keeper
    pub opens : OpensDatabase (record {
      schema = schema;
      committed = core.state.database;
      sealed = None;
      keeper = core.keeper;
    }) core.source
    pub found : k.is_honest core.keeper → (held : Stored) → k.leaves core.keeper held
        → held ≡ stored_of schema core.state.database

  -- No core was opened: an open with or without a conversion, as above, was refused, or the keeper had a fault of its own.
  -- Without a conversion the fault is not `SchemaDiffers`: that one leads to a conversion.
  pub record RefusesCore (refused : RefusedOpen K) : Type 0 where
    pub schema_is : refused.schema ≡ schema
    pub version : Option Uuid
    pub after : D
    pub drawn : DrawsFrom draws source (option_to_list version) after
    pub another : k.is_honest refused.keeper → version ≢ None → FindsAnother (k.leaves keeper) schema
    pub kinds : IsFaultAs version refused.fault
    -- without a conversion nothing is written over a keeper of format 2, so no write fails
    pub read_kinds : version ≡ None → k.is_honest refused.keeper → k.format keeper ≡ 2 → IsReadFault refused.fault
    pub plain : version ≡ None → refused.fault ≢ SchemaDiffers
    pub fault : k.is_honest refused.keeper → (held : Stored) → k.leaves keeper held
        → TellsRefusal (opens_as schema version held) refused.fault
    -- if the device failed, the keeper's count of failures rose in this call, or was at its maximum before
    pub cause : refused.fault ≡ Keeping Device → HasFailed (k.failed keeper) (k.failed refused.keeper)
    pub counts : k.failed keeper ≤ k.failed refused.keeper
    pub left : k.is_honest refused.keeper
        → LeavesUnopened (k.leaves keeper) (k.leaves refused.keeper) (opens_as schema version) schema refused.fault
    pub format : k.format refused.keeper ≡ k.format keeper
    pub honest : k.is_honest refused.keeper → k.is_honest keeper
