-- The elements of a list that pass a test, one after another.
use Rattle.std.proofs.Common.{◌≡◌, ℕ, ◌+◌, ◌<◌, List, [], ◌∷◌, ◌++◌, length, get_or, drop, map, filter, Bool, true, false, cond, refl, sym, ap, ◌∙◌, append_assoc}
use Rattle.std.proofs.lemmas.List.{drop_more}

module _ {A B : Type 0} (f : A → B) (test : B → Bool) (items : List A) (i : ℕ) (a : A) (within : i < length items) (at : a ≡ get_or items i a) (done : List B) where
  rest : List B
  rest = filter test (map f (drop (i + 1) items))

  next : done ++ filter test (map f (drop i items)) ≡ done ++ cond (test (f a)) (f a ∷ rest) rest
  unfolding rest
  next = ap (λ xs. done ++ filter test (map f xs)) (drop_more items i a within ∙ ap (λ x. x ∷ drop (i + 1) items) (sym at))

  pub filter-kept : test (f a) ≡ true → done ++ filter test (map f (drop i items)) ≡ (done ++ f a ∷ []) ++ filter test (map f (drop (i + 1) items))
  unfolding rest
  filter-kept h = next ∙ ap (λ b. done ++ cond b (f a ∷ rest) rest) h ∙ sym (append_assoc done (f a ∷ []) rest)

  pub filter-passed : test (f a) ≡ false → done ++ filter test (map f (drop i items)) ≡ done ++ filter test (map f (drop (i + 1) items))
  unfolding rest
  filter-passed h = next ∙ ap (λ b. done ++ cond b (f a ∷ rest) rest) h

map_itself : {A : Type 0} (xs : List A) → map (λ x. x) xs ≡ xs
map_itself [] = refl
map_itself (x ∷ xs) = ap (λ ys. x ∷ ys) (map_itself xs)

module _ {A : Type 0} (test : A → Bool) (items : List A) (i : ℕ) (a : A) (within : i < length items) (at : a ≡ get_or items i a) (done : List A) where
  pub kept-next : test a ≡ true → done ++ filter test (drop i items) ≡ (done ++ a ∷ []) ++ filter test (drop (i + 1) items)
  kept-next h =
      ap (λ xs. done ++ filter test xs) (sym (map_itself (drop i items))) ∙ filter-kept (λ x. x) test items i a within at done h ∙ ap (λ xs. (done ++ a ∷ []) ++ filter test xs) (map_itself (drop (i + 1) items))

  pub passed-next : test a ≡ false → done ++ filter test (drop i items) ≡ done ++ filter test (drop (i + 1) items)
  passed-next h =
      ap (λ xs. done ++ filter test xs) (sym (map_itself (drop i items))) ∙ filter-passed (λ x. x) test items i a within at done h ∙ ap (λ xs. done ++ filter test xs) (map_itself (drop (i + 1) items))
