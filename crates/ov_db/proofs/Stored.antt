-- What an open may find after a commit.
use Rattle.std.proofs.Common.{◌≡◌, List, map, Option, Some, None, option_map, refl, subst, ◌∙◌}
use mathlib.Core.Logic.{inl, inr}
use Rattle.std.specs.FinMap.{entries}
use Rattle.ov_specs.specs.conversion.Converted.{stored_of}
use Rattle.ov_specs.specs.rows.Cells.{CellChange, InCells, Stored}
use Rattle.ov_specs.specs.rows.Database.{Database}
use Rattle.ov_specs.specs.schema.SchemaTypes.{Schema}
use Rattle.ov_keeper.specs.Keeping.{changed}
use Rattle.serde_json.specs.Written.{compact_text}
use Rattle.ov_stored.specs.Changing.{Delta, applied, change_of}
use Rattle.ov_stored.proofs.Stored.{stores}
use Rattle.ov_db.specs.Committing.{IsHeld}

pub found : (schema : Schema) (database : Database) (held : Stored) → IsHeld schema database None held → held ≡ stored_of schema database
found schema database held is = elim is [
  | inl same ↦ same
  | inr other ↦ absurd (no_seal other.0 other.1)
]
  where
    no_seal : (d : Database) → None ≡ Some d → ⊥
    no_seal d e = cc

-- the keeper made the changes of a commit
pub found_changed : (schema : Schema) (delta : Delta) (database : Database) (changes : List CellChange) (before held : Stored) → before ≡ stored_of schema database → changes ≡ map change_of (entries delta) → held ≡ changed changes before
    → held ≡ stored_of schema (applied delta database)
found_changed schema delta database changes before held is changes_is made =
    made ∙ (λ i. changed (changes_is i) (is i)) ∙ (λ i. record { schema = compact_text schema.tree; lines = InCells (stores (entries delta) database i) })

-- what is held of a database that is not sealed
pub unsealed_held : (schema : Schema) (database : Database) (sealed : Option Database) (held : Stored) → sealed ≡ None → IsHeld schema database sealed held → IsHeld schema database None held
unsealed_held schema database sealed held is h = subst (λ o. IsHeld schema database o held) is h

-- if no changes failed, none are shown
pub still_none : (o : Option Delta) (f g : Delta → Database) → option_map f o ≡ None → option_map g o ≡ None
still_none None f g h = refl
still_none (Some delta) f g h = cc
