-- Lists that go together.
use Rattle.std.proofs.Common.{◌≡◌, ℕ, ◌<◌, List, [], ◌∷◌, ◌++◌, length, get_or, refl, sym, ap, subst, ◌∙◌, arith}
use Rattle.std.proofs.lemmas.List.{get_or_push}
use Rattle.std.proofs.Math.ListN.{get_or-append}
use Rattle.ov_lanes.specs.Pairs.{Pairwise, Threewise, Each}

module _ {A B : Type 0} (holds : A → B → Type 0) where
  -- one pair more
  pub pairs_more : (xs : List A) (ys : List B) (a : A) (b : B) → Pairwise holds xs ys → holds a b → Pairwise holds (xs ++ a ∷ []) (ys ++ b ∷ [])
  pairs_more [] [] a b p h = (h, tt)
  pairs_more [] (v ∷ ys) a b p h = absurd p
  pairs_more (u ∷ xs) [] a b p h = absurd p
  pairs_more (u ∷ xs) (v ∷ ys) a b p h = (p.0, pairs_more xs ys a b p.1 h)

  -- the last pair, and the others
  pub pairs_last : (xs : List A) (ys : List B) (a : A) (b : B) → Pairwise holds (xs ++ a ∷ []) (ys ++ b ∷ []) → Pairwise holds xs ys × holds a b
  pairs_last [] [] a b p = (tt, p.0)
  pairs_last [] (v ∷ []) a b p = absurd p.1
  pairs_last [] (v ∷ w ∷ ys) a b p = absurd p.1
  pairs_last (u ∷ []) [] a b p = absurd p.1
  pairs_last (u ∷ v ∷ xs) [] a b p = absurd p.1
  pairs_last (u ∷ xs) (v ∷ ys) a b p = let q = pairs_last xs ys a b p.1 in ((p.0, q.0), q.1)

  -- xs many
  pub pairs_length : (xs : List A) (ys : List B) → Pairwise holds xs ys → length xs ≡ length ys
  pairs_length [] [] p = refl
  pairs_length [] (v ∷ ys) p = absurd p
  pairs_length (u ∷ xs) [] p = absurd p
  pairs_length (u ∷ xs) (v ∷ ys) p = let e : length xs ≡ length ys = pairs_length xs ys p.1 in omega arith

  -- the last of each was taken off
  pub pairs_popped : (xs xs' : List A) (ys ys' : List B) (a : A) (b : B) → xs ≡ xs' ++ a ∷ [] → ys ≡ ys' ++ b ∷ [] → Pairwise holds xs ys → Pairwise holds xs' ys' × holds a b
  pairs_popped xs xs' ys ys' a b e e' p = pairs_last xs' ys' a b (subst (λ (l : List B). Pairwise holds (xs' ++ a ∷ []) l) e' (subst (λ (l : List A). Pairwise holds l ys) e p))

  -- the last of the others, beside which one was taken off
  pub pairs_end : (xs : List A) (ys : List B) (b : B) → Pairwise holds xs (ys ++ b ∷ []) → (front : List A) × (last : A) × (xs ≡ front ++ last ∷ []) × Pairwise holds front ys × holds last b
  pairs_end [] [] b p = absurd p
  pairs_end [] (v ∷ ys) b p = absurd p
  pairs_end (u ∷ []) [] b p = ([], u, refl, tt, p.0)
  pairs_end (u ∷ v ∷ xs) [] b p = absurd p.1
  pairs_end (u ∷ xs) (v ∷ ys) b p = let q = pairs_end xs ys b p.1 in (u ∷ q.0, q.1, ap (λ (l : List A). u ∷ l) q.2, (p.0, q.3), q.4)

  pub pairs_none : (xs : List A) → Pairwise holds xs [] → xs ≡ []
  pairs_none [] p = refl
  pairs_none (u ∷ xs) p = absurd p

  -- none is left of the others
  pub none_beside : (xs xs' : List A) (ys : List B) (a : A) → xs ≡ xs' ++ a ∷ [] → ys ≡ [] → Pairwise holds xs ys → ⊥
  none_beside xs xs' ys a e none p = some_none xs' a (sym e ∙ pairs_none xs (subst (λ (l : List B). Pairwise holds xs l) none p))
    where
      some_none : (l : List A) (x : A) → l ++ x ∷ [] ≡ [] → ⊥
      some_none [] x h = cc
      some_none (y ∷ l) x h = cc

pub popped_at : {X : Type 0} (old new : List X) (x d : X) (n : ℕ) → old ≡ new ++ x ∷ [] → length new ≡ n → get_or old n d ≡ x
popped_at old new x d n e is = ap (λ l. get_or l n d) e ∙ get_or_push new x d n is

pub popped_rest : {X : Type 0} (old new : List X) (x d : X) (i : ℕ) → old ≡ new ++ x ∷ [] → i < length new → get_or old i d ≡ get_or new i d
popped_rest old new x d i e lt = ap (λ l. get_or l i d) e ∙ get_or-append new (x ∷ []) d i lt

module _ {A B : Type 0} (holds : A → B → Type 0) where
  pub pairs_ended : (xs : List A) (ys ys' : List B) (b : B) → ys ≡ ys' ++ b ∷ [] → Pairwise holds xs ys → (front : List A) × (last : A) × (xs ≡ front ++ last ∷ []) × Pairwise holds front ys' × holds last b
  pairs_ended xs ys ys' b e p = pairs_end holds xs ys' b (subst (λ (l : List B). Pairwise holds xs l) e p)

  pub none_of_pairs : (xs : List A) (ys : List B) → ys ≡ [] → Pairwise holds xs ys → xs ≡ []
  none_of_pairs xs ys e p = pairs_none holds xs (subst (λ (l : List B). Pairwise holds xs l) e p)

module _ {A B C : Type 0} (holds : A → B → C → Type 0) where
  pub threes_none : (zs : List C) → zs ≡ [] → Threewise holds [] [] zs
  threes_none zs e = subst (λ (l : List C). Threewise holds [] [] l) (sym e) tt

  pub threes_more : (xs : List A) (ys : List B) (zs zs' : List C) (a : A) (b : B) (c : C) → zs' ≡ c ∷ zs → holds a b c → Threewise holds xs ys zs → Threewise holds (a ∷ xs) (b ∷ ys) zs'
  threes_more xs ys zs zs' a b c e h t = subst (λ (l : List C). Threewise holds (a ∷ xs) (b ∷ ys) l) (sym e) (h, t)

-- the first of them, and the others
pub each_first : {A : Type 0} (holds : A → Type 0) (xs xs' : List A) (x : A) → xs ≡ x ∷ xs' → Each holds xs → holds x × Each holds xs'
each_first {A = A} holds xs xs' x e h = subst (λ (l : List A). Each holds l) e h

module _ {A B : Type 0} (holds : A → B → Type 0) where
  -- one pair more, as two pushes leave it
  pub pairs_pushed : (xs : List A) (ys : List B) (xs' : List A) (ys' : List B) (a : A) (b : B) → xs' ≡ xs ++ a ∷ [] → ys' ≡ ys ++ b ∷ [] → Pairwise holds xs ys → holds a b → Pairwise holds xs' ys'
  pairs_pushed xs ys xs' ys' a b e e' p h = subst (λ (l : List A). Pairwise holds l ys') (sym e) (subst (λ (l : List B). Pairwise holds (xs ++ a ∷ []) l) (sym e') (pairs_more holds xs ys a b p h))
