-- What a commit makes of a database, and what an open may find of it.
use Rattle.std.specs.Prelude.{◌≡◌, ◌⊎◌, true, Option, Some, Ok}
use Rattle.ov_specs.specs.conversion.Converted.{stored_of}
use Rattle.ov_specs.specs.integrity.Committed.{is_whole}
use Rattle.ov_specs.specs.rows.Cells.{Stored}
use Rattle.ov_specs.specs.rows.Database.{Database}
use Rattle.ov_db.specs.declared.answer.StoreAnswer.{StoreAnswer}
use Rattle.ov_db.specs.declared.answer.StoreAnswer.TheVariants.{Kept, Exhausted, Failed}
use Rattle.ov_stored.specs.Changing.{Delta, applied}
use Rattle.ov_db.specs.KeptDatabase as kept
use Rattle.ov_db.specs.Opening.{open_of}
use Rattle.ov_stored.specs.Stored.{KeepsRows}
use Rattle.ov_specs.specs.schema.SchemaTypes.{Schema}

-- `Kept`: the changes are made. `Exhausted`: nothing changes. `Failed`: what they would have made is sealed. The keeper may
-- differ after each of them.
abbrev pub Commits : {K : Type 0} → Delta → kept.KeptDatabase K → StoreAnswer → kept.KeptDatabase K → Type 0
Commits delta old Kept new = new ≡ record old { committed = applied delta old.committed; keeper = new.keeper }
Commits delta old Exhausted new = new ≡ record old { keeper = new.keeper }
Commits delta old Failed new = new ≡ record old { sealed = Some (applied delta old.committed); keeper = new.keeper }

-- what is held is the schema's text with the cells of the committed rows, or with those of the failed commit
abbrev pub IsHeld : Schema → Database → Option Database → Stored → Type 0
IsHeld schema committed sealed held =
    (held ≡ stored_of schema committed) ⊎ ((database : Database) × (sealed ≡ Some database) × (held ≡ stored_of schema database))

-- whatever an open may find now is that
abbrev pub MayBeHeld : (Stored → Type 0) → Schema → Database → Option Database → Type 0
MayBeHeld leaves schema committed sealed = (held : Stored) → leaves held → IsHeld schema committed sealed held

-- the committed rows, and those that a failed commit would have made, are rows of the schema that read back, and are whole:
-- a commit leaves them as they are
pub record AreKept (schema : Schema) (committed : Database) (sealed : Option Database) : Type 0 where
  pub committed_kept : KeepsRows schema committed
  pub committed_whole : is_whole schema committed ≡ true
  pub sealed_kept : (database : Database) → sealed ≡ Some database → KeepsRows schema database
  pub sealed_whole : (database : Database) → sealed ≡ Some database → is_whole schema database ≡ true

-- an open now gives the committed rows, or those of the failed commit
abbrev pub MayFindRows : (Stored → Type 0) → Schema → Database → Option Database → Type 0
MayFindRows leaves schema committed sealed =
    (held : Stored) → leaves held
    → (open_of schema held ≡ Ok committed)
    ⊎ ((database : Database) × (sealed ≡ Some database) × (open_of schema held ≡ Ok database))
