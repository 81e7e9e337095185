-- What passes keep, by the first one.
use Rattle.std.proofs.Common.{◌≡◌, ℕ, suc, List, [], ◌∷◌, Bool, cond, Some, ap, ◌∙◌}
use Rattle.ov_specs.specs.machine.Machine.{State, Attempt, Passed, pass}
use Rattle.ov_specs.specs.rows.Database.{Database}
use Rattle.ov_specs.proofs.laws.Tries.{emptied}
use Rattle.ov_laws.specs.Databases.{if_suits, kept_by_passes}

-- what a pass keeps, and those after it, if it changed the database or not
abbrev kept_from : ℕ → Passed → Bool → List Database
kept_from most p changed = cond changed (p.tried.stepped.state.database ∷ kept_by_passes most p.tried.stepped.state p.next p.tried.others) []

pub kept_by_passes-first : (most : ℕ) (s : State) (number : ℕ) (attempts : List Attempt) (p : Passed) → pass (emptied s) number attempts s.outstanding ≡ Some p → (changed : Bool) → p.has_changed ≡ changed
    → kept_by_passes (suc most) s number attempts ≡ kept_from most p changed
kept_by_passes-first most s number attempts p is changed has = ap (λ o. if_suits o (λ q. kept_from most q q.has_changed)) is ∙ ap (kept_from most p) has
