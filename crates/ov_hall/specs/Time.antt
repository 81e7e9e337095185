-- The moments at which the desk takes messages and time passes.
use Rattle.std.specs.Prelude.{◌≡◌, ℕ, List, ◌++◌}
use Rattle.ov_specs.specs.machine.Machine as machine
use Rattle.ov_specs.specs.machine.Machine.{State}
use Rattle.ov_core.specs.Following.{Timed}
use Rattle.ov_lanes.specs.Moments.{AreTimed, AreTimedBy, Tells}

-- Sessions were opened, and then each message was taken and time passed at moments that the clock reported, one after another.
pub record TakesTime {K D C : Type 0} (tells : C → ℕ → C → Type 0) (old : Timed K D C) (entries : List machine.Entry) (new : Timed K D C) : Type 0 where
  pub opened : List machine.Entry
  pub others : List machine.Entry
  pub mid : State
  pub parts : entries ≡ opened ++ others
  pub opens : (reported : ℕ) → AreTimed reported old.core.state opened mid
  pub moments : List ℕ
  pub reported : Tells tells old.clock moments new.clock
  pub timed : AreTimedBy moments mid others new.core.state
