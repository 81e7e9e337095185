-- Seats that go with links, from the last one on.
use Rattle.std.proofs.Common.{◌≡◌, suc, List, [], ◌∷◌, ◌++◌, length, refl, ap, subst}
use Rattle.ov_lanes.specs.Pairs.{Threewise}

module _ {A B C : Type 0} (holds : A → B → C → Type 0) where
  -- the last ones, and the others
  threes_end : (xs : List A) (ys : List B) (zs : List C) (b : B) (c : C) → Threewise holds xs (ys ++ b ∷ []) (zs ++ c ∷ []) → (front : List A) × (last : A) × (xs ≡ front ++ last ∷ []) × Threewise holds front ys zs × holds last b c
  threes_end [] [] zs b c t = absurd t
  threes_end [] (y ∷ ys) zs b c t = absurd t
  threes_end (x ∷ []) [] [] b c t = ([], x, refl, tt, t.0)
  threes_end (x ∷ v ∷ xs) [] [] b c t = absurd t.1
  threes_end (x ∷ xs) [] (z ∷ []) b c t = absurd (none xs t.1)
    where
      none : (l : List A) → Threewise holds l [] (c ∷ []) → ⊥
      none [] n = n
      none (u ∷ l) n = n
  threes_end (x ∷ xs) [] (z ∷ y ∷ zs) b c t = absurd (none xs t.1)
    where
      none : (l : List A) → Threewise holds l [] ((y ∷ zs) ++ c ∷ []) → ⊥
      none [] n = n
      none (u ∷ l) n = n
  threes_end (x ∷ xs) (y ∷ []) [] b c t = absurd (none xs t.1)
    where
      none : (l : List A) → Threewise holds l (b ∷ []) [] → ⊥
      none [] n = n
      none (u ∷ l) n = n
  threes_end (x ∷ xs) (y ∷ v ∷ ys) [] b c t = absurd (none xs t.1)
    where
      none : (l : List A) → Threewise holds l ((v ∷ ys) ++ b ∷ []) [] → ⊥
      none [] n = n
      none (u ∷ l) n = n
  threes_end (x ∷ xs) (y ∷ ys) (z ∷ zs) b c t =
      let r = threes_end xs ys zs b c t.1 in (x ∷ r.0, r.1, ap (λ l. x ∷ l) r.2, (t.0, r.3), r.4)

  -- the last of the second and third were taken off
  pub threes_ended : (xs : List A) (ys ys' : List B) (zs zs' : List C) (b : B) (c : C) → ys ≡ ys' ++ b ∷ [] → zs ≡ zs' ++ c ∷ [] → Threewise holds xs ys zs → (front : List A) × (last : A) × (xs ≡ front ++ last ∷ []) × Threewise holds front ys' zs' × holds last b c
  threes_ended xs ys ys' zs zs' b c e e' t = threes_end xs ys' zs' b c (subst (λ l. Threewise holds xs l (zs' ++ c ∷ [])) e (subst (λ l. Threewise holds xs ys l) e' t))

  -- with no second there is no third, and no first
  pub threes_none_left : (xs : List A) (ys : List B) (zs : List C) → ys ≡ [] → Threewise holds xs ys zs → (xs ≡ []) × (zs ≡ [])
  threes_none_left [] [] [] e t = (refl, refl)
  threes_none_left [] [] (z ∷ zs) e t = absurd t
  threes_none_left [] (y ∷ ys) zs e t = absurd t
  threes_none_left (x ∷ xs) [] zs e t = absurd t
  threes_none_left (x ∷ xs) (y ∷ ys) zs e t = cc

  -- one more of each
  pub threes_more : (xs : List A) (ys : List B) (zs : List C) (a : A) (b : B) (c : C) → holds a b c → Threewise holds xs ys zs → Threewise holds (xs ++ a ∷ []) (ys ++ b ∷ []) (zs ++ c ∷ [])
  threes_more [] [] [] a b c h t = (h, tt)
  threes_more [] [] (z ∷ zs) a b c h t = absurd t
  threes_more [] (y ∷ ys) zs a b c h t = absurd t
  threes_more (x ∷ xs) [] zs a b c h t = absurd t
  threes_more (x ∷ xs) (y ∷ ys) [] a b c h t = absurd t
  threes_more (x ∷ xs) (y ∷ ys) (z ∷ zs) a b c h t = (t.0, threes_more xs ys zs a b c h t.1)

  pub threes_lengths : (xs : List A) (ys : List B) (zs : List C) → Threewise holds xs ys zs → length ys ≡ length zs
  threes_lengths [] [] [] t = refl
  threes_lengths [] [] (z ∷ zs) t = absurd t
  threes_lengths [] (y ∷ ys) zs t = absurd t
  threes_lengths (x ∷ xs) [] zs t = absurd t
  threes_lengths (x ∷ xs) (y ∷ ys) [] t = absurd t
  threes_lengths (x ∷ xs) (y ∷ ys) (z ∷ zs) t = let e = threes_lengths xs ys zs t.1 in ap (λ n. suc n) e

  -- and as many firsts
  pub threes_counts : (xs : List A) (ys : List B) (zs : List C) → Threewise holds xs ys zs → length ys ≡ length xs
  threes_counts [] [] zs t = refl
  threes_counts [] (y ∷ ys) zs t = absurd t
  threes_counts (x ∷ xs) [] zs t = absurd t
  threes_counts (x ∷ xs) (y ∷ ys) [] t = absurd t
  threes_counts (x ∷ xs) (y ∷ ys) (z ∷ zs) t = let e = threes_counts xs ys zs t.1 in ap (λ n. suc n) e
