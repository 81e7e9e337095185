-- The order in which sessions are served.
use Rattle.std.specs.Prelude.{◌≡◌, ℕ, ◌+◌, ◌-◌, ◌^◌, ◌<◌, Bool, List, [], ◌∷◌, ◌++◌, length, Option, Some}

-- how many notes may wait
abbrev pub note_limit : ℕ
note_limit = 4160

-- the serials noted and not yet taken, oldest first; how many were taken; and whether the workers may begin, once it is known
pub record OrderBook : Type 0 where
  pub waiting : List ℕ
  pub taken : ℕ
  pub begun : Option Bool

-- how many serials were noted
abbrev pub noted : OrderBook → ℕ
noted b = b.taken + length b.waiting

-- a serial can be noted
abbrev pub HasRoom : OrderBook → Type 0
HasRoom b = (length b.waiting < note_limit) × (noted b < 2 ^ 64 - 1)

-- the serial was noted, after all that wait
abbrev pub Notes : ℕ → OrderBook → OrderBook → Type 0
Notes serial b b' = (b'.waiting ≡ b.waiting ++ serial ∷ []) × (b'.taken ≡ b.taken) × (b'.begun ≡ b.begun)

-- the oldest serial was taken
abbrev pub Takes : ℕ → OrderBook → OrderBook → Type 0
Takes serial b b' = (b.waiting ≡ serial ∷ b'.waiting) × (b'.taken ≡ b.taken + 1) × (b'.begun ≡ b.begun)

-- it was said whether the workers may begin
abbrev pub Says : Bool → OrderBook → OrderBook → Type 0
Says go b b' = (b'.waiting ≡ b.waiting) × (b'.taken ≡ b.taken) × (b'.begun ≡ Some go)
