-- Lists that go together.
use Rattle.std.specs.Prelude.{List, [], ◌∷◌}

-- the relation holds of the elements of two lists, place by place
abbrev pub Pairwise : {A B : Type 0} → (A → B → Type 0) → List A → List B → Type 0
Pairwise holds [] [] = Unit {0}
Pairwise holds [] (b ∷ ys) = ⊥
Pairwise holds (a ∷ xs) [] = ⊥
Pairwise holds (a ∷ xs) (b ∷ ys) = holds a b × Pairwise holds xs ys

-- the relation holds of the elements of three lists, place by place
abbrev pub Threewise : {A B C : Type 0} → (A → B → C → Type 0) → List A → List B → List C → Type 0
Threewise holds [] [] [] = Unit {0}
Threewise holds [] [] (c ∷ zs) = ⊥
Threewise holds [] (b ∷ ys) zs = ⊥
Threewise holds (a ∷ xs) [] zs = ⊥
Threewise holds (a ∷ xs) (b ∷ ys) [] = ⊥
Threewise holds (a ∷ xs) (b ∷ ys) (c ∷ zs) = holds a b c × Threewise holds xs ys zs

-- the fact holds of each element
abbrev pub Each : {A : Type 0} → (A → Type 0) → List A → Type 0
Each holds [] = Unit {0}
Each holds (x ∷ xs) = holds x × Each holds xs
