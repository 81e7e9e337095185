-- At which moments a desk enters what it takes.
use Rattle.std.specs.Prelude.{◌≡◌, ◌⊎◌, ℕ, max, List, [], ◌∷◌, ◌++◌, Some, true}
use Rattle.ov_specs.specs.machine.Machine as machine
use Rattle.ov_specs.specs.machine.Machine.{State}
use Rattle.ov_core.specs.Passing.{is_due}

-- A message is taken, and time passes, at the moment that was reported, or at the last one if that is later. Time passes only
-- if a waiting transaction is due by the moment that was reported. A session is opened or closed at the last moment; if an
-- allocation fails and it is closed in place of a message, at the message's.
abbrev pub IsAtMoment : (reported : ℕ) (s : State) (moment : ℕ) → machine.Event → Type 0
IsAtMoment reported s moment machine.Open = moment ≡ s.moment
IsAtMoment reported s moment (machine.Take session message) = moment ≡ max reported s.moment
IsAtMoment reported s moment (machine.Close session cause) = (moment ≡ s.moment) ⊎ ((cause ≡ machine.Memory) × (moment ≡ max reported s.moment))
IsAtMoment reported s moment machine.Tick = (moment ≡ max reported s.moment) × (is_due reported s ≡ true)

-- These entries lead from the one state to the other, each at its moment, with this one reported: so time passes only where a
-- waiting transaction is due.
abbrev pub AreTimed : ℕ → State → List machine.Entry → State → Type 0
AreTimed reported s [] s' = s' ≡ s
AreTimed reported s (e ∷ entries) s' =
    (t : machine.Stepped) × (machine.step s e ≡ Some t) × IsAtMoment reported s e.choice.moment e.event
    × AreTimed reported t.state entries s'

-- The same with these moments reported, one after another: each has some of the entries, in order.
abbrev pub AreTimedBy : List ℕ → State → List machine.Entry → State → Type 0
AreTimedBy [] s entries s' = (entries ≡ []) × (s' ≡ s)
AreTimedBy (reported ∷ moments) s entries s' =
    (front others : List machine.Entry) × (mid : State) × (entries ≡ front ++ others)
    × AreTimed reported s front mid × AreTimedBy moments mid others s'

-- the clock reported these moments, one after another
abbrev pub Tells : {C : Type 0} → (C → ℕ → C → Type 0) → C → List ℕ → C → Type 0
Tells tells old [] new = new ≡ old
Tells {C} tells old (moment ∷ moments) new = (mid : C) × tells old moment mid × Tells tells mid moments new
