-- Lists whose elements are among those of another, and facts of elements with consecutive numbers.
use Rattle.std.proofs.Common.{inl, inr, ℕ, ◌+◌, ◌<◌, List, [], ◌∷◌, ◌++◌, length, subst, arith}
use Rattle.ov_hall.specs.Lists.{AreAmong, EachFrom}

module _ {A : Type 0} where
  -- one other more before them
  among_skip : (y : A) (xs ys : List A) → AreAmong xs ys → AreAmong xs (y ∷ ys)
  among_skip y [] ys among = tt
  among_skip y (x ∷ xs) ys among = inr among

  -- more others after them
  pub among_after : (xs ys rest : List A) → AreAmong xs ys → AreAmong xs (ys ++ rest)
  among_after [] ys rest among = tt
  among_after (x ∷ xs) [] rest among = absurd among
  among_after (x ∷ xs) (y ∷ ys) rest (inl (same, among)) = inl (same, among_after xs ys rest among)
  among_after (x ∷ xs) (y ∷ ys) rest (inr among) = inr (among_after (x ∷ xs) ys rest among)

  pub among_append : (xs ys more others : List A) → AreAmong xs ys → AreAmong more others → AreAmong (xs ++ more) (ys ++ others)
  among_append [] [] more others among among' = among'
  among_append [] (y ∷ ys) more others among among' = among_skip y more (ys ++ others) (among_append [] ys more others tt among')
  among_append (x ∷ xs) [] more others among among' = absurd among
  among_append (x ∷ xs) (y ∷ ys) more others (inl (same, among)) among' = inl (same, among_append xs ys more others among among')
  among_append (x ∷ xs) (y ∷ ys) more others (inr among) among' = inr (among_append (x ∷ xs) ys more others among among')

  -- one fact gives the other
  pub from_each : (P Q : ℕ → A → Type 0) (n : ℕ) (xs : List A) → ((i : ℕ) (x : A) → i < n + length xs → P i x → Q i x) → EachFrom P n xs → EachFrom Q n xs
  from_each P Q n [] by each = tt
  from_each P Q n (x ∷ xs) by (first, rest) = (by n x (omega arith) first, from_each P Q (n + 1) xs (λ i y low is. by i y (omega (arith, low)) is) rest)

  pub from_append : (P : ℕ → A → Type 0) (n : ℕ) (xs ys : List A) → EachFrom P n xs → EachFrom P (n + length xs) ys → EachFrom P n (xs ++ ys)
  from_append P n [] ys each more = subst (λ (i : ℕ). EachFrom P i ys) (omega arith) more
  from_append P n (x ∷ xs) ys (first, rest) more = (first, from_append P (n + 1) xs ys rest (subst (λ (i : ℕ). EachFrom P i ys) (omega arith) more))
