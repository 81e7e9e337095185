-- One more draw at the end.
use Rattle.std.proofs.Common.{List, ℕ, [], ◌∷◌, ◌++◌, refl, subst}
use Rattle.ov_requests.specs.Drawing.{DrawsFrom}

pub draws_last : {D : Type 0} (draws : D → List ℕ → D → Type 0) (old : D) (xs : List (List ℕ)) (mid : D) (x : List ℕ) (new : D) → DrawsFrom draws old xs mid → draws mid x new → DrawsFrom draws old (xs ++ x ∷ []) new
draws_last {D} draws old [] mid x new h k = (new, subst (λ (d : D). draws d x new) h k, refl)
draws_last {D} draws old (y ∷ xs) mid x new h k = (h.0, h.1, draws_last draws h.0 xs mid x new h.2 k)
