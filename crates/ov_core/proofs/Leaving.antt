-- What a crash leaves of a core.
use Rattle.std.proofs.Common.{inl, inr, refl}
use Rattle.ov_specs.specs.rows.Cells as cells
use Rattle.ov_specs.specs.machine.Machine.{State}
use Rattle.ov_db.specs.Committing.{IsHeld}
use Rattle.ov_core.specs.Leaving.{LeavesItsOwn}

-- what is held of a database is what a crash may leave of a state over it
pub its_own : (s : State) (held : cells.Stored) → IsHeld s.schema s.database s.sealed held → LeavesItsOwn s held
its_own s held (inl is) = (s.database, inl refl, is)
its_own s held (inr (d, sealed, is)) = (d, inr sealed, is)
