-- What the machine stands on.
use Rattle.std.specs.Prelude.{ℕ}
use Rattle.ov_specs.specs.values.Uuid.{Uuid}
use Rattle.ov_keeper.specs.declared.keeper.Keeper.{Ghosts}

-- how its keeper keeps, what its source of identifiers draws, and what its clock reports
pub record Environment (K D C : Type 0) : Type 1 where
  pub keeper : Ghosts K
  pub draws : D → Uuid → D → Type 0
  pub tells : C → ℕ → C → Type 0

-- these three
abbrev pub environment_of : {K D C : Type 0} → Ghosts K → (D → Uuid → D → Type 0) → (C → ℕ → C → Type 0) → Environment K D C
environment_of keeper draws tells = record { keeper = keeper; draws = draws; tells = tells }
