-- When time passes for a core.
use Rattle.std.specs.Prelude.{◌≡◌, ℕ, max, nat_le, Bool, true, false, Option, Some, None}
use Rattle.ov_specs.specs.machine.Machine as machine
use Rattle.ov_specs.specs.machine.Machine.{State, due}
use Rattle.ov_specs.specs.values.Uuid.{Uuid}
use Rattle.ov_history.specs.declared.event.Stepped.TheVariants as answer
use Rattle.ov_core.specs.Following.{CoreState}
use Rattle.ov_core.specs.Stepping.{IsEntered}

-- there is a moment, and it is no later than `at`
abbrev pub has_come : ℕ → Option ℕ → Bool
has_come at None = false
has_come at (Some moment) = nat_le moment at

-- a waiting transaction is due by the moment
abbrev pub is_due : ℕ → State → Bool
is_due at s = has_come at (due s)

-- time advanced to the moment, or to the last one if that is later; or nothing was done
abbrev pub TicksIf : {K D : Type 0} → (D → Uuid → D → Type 0) → Bool → ℕ → CoreState K D → CoreState K D → Type 0
TicksIf draws true at old new = IsEntered draws (max at old.state.moment) machine.Tick old answer.Done new
TicksIf draws false at old new = new ≡ old
