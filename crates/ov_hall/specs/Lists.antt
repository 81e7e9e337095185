-- Lists whose elements are among those of another, and facts of elements with consecutive numbers.
use Rattle.std.specs.Prelude.{◌≡◌, ◌⊎◌, ℕ, ◌+◌, List, [], ◌∷◌}

-- some of the others, in the same order
abbrev pub AreAmong : {A : Type 0} → List A → List A → Type 0
AreAmong [] others = Unit {0}
AreAmong (x ∷ xs) [] = ⊥
AreAmong (x ∷ xs) (y ∷ ys) = ((x ≡ y) × AreAmong xs ys) ⊎ AreAmong (x ∷ xs) ys

-- the fact holds of each element and its number; this is the first
abbrev pub EachFrom : {A : Type 0} → (ℕ → A → Type 0) → ℕ → List A → Type 0
EachFrom holds n [] = Unit {0}
EachFrom holds n (x ∷ xs) = holds n x × EachFrom holds (n + 1) xs
