-- What a crash leaves of a core.
use Rattle.std.specs.Prelude.{◌≡◌}
use Rattle.ov_specs.specs.conversion.Converted.{stored_of}
use Rattle.ov_specs.specs.rows.Cells.{Stored}
use Rattle.ov_specs.specs.rows.Database.{Database}
use Rattle.ov_specs.specs.machine.Machine.{State, Left}

-- what is held is a database that a crash may leave of the state, as stored under the state's schema
abbrev pub LeavesItsOwn : State → Stored → Type 0
LeavesItsOwn s held = (d : Database) × Left s d × (held ≡ stored_of s.schema d)
