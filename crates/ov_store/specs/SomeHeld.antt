-- An open finds something.
use Rattle.std.proofs.Common.{◌≡◌, refl}
use Rattle.std.proofs.Math.Logic.{∥∥₁_map}
use Rattle.sqlite.specs.Tree.{Trees}
use Rattle.ov_specs.specs.rows.Cells.{Stored}
use Rattle.ov_tables.specs.Format.{stored_in}

-- if some trees are found, so are the contents that they hold
pub some_held : (recovers : Trees → Type 0) → ∥ ((db : Trees) × recovers db) ∥₁
    → ∥ ((contents : Stored) × ((trees : Trees) × recovers trees × (contents ≡ stored_in trees))) ∥₁
some_held recovers some = ∥∥₁_map some (λ found. (stored_in found.0, (found.0, found.1, refl)))
