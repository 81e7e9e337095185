-- Places in which there is nothing.
use Rattle.std.proofs.Common.{◌≡◌, ℕ, zero, suc, List, [], ◌∷◌, ◌++◌, length, get_or, refl, sym, subst, ◌∙◌, Bool, Option, None}
use Rattle.ov_lanes.specs.declared.lane.Lane.{Lane}
use Rattle.ov_threads.specs.declared.workers.Workers.{Workers}
use Rattle.ov_hall.specs.Seats.{IsSeat, ArePlaces}

-- a hall of them
pub empty_seats : {S W L : Type 0} (keeps : Bool) (ls : List (Option Lane)) (ws : List (Option (Workers S W L))) → (length ls ≡ 64) × ((at : ℕ) → get_or ls at None ≡ None) → (length ws ≡ 64) × ((at : ℕ) → get_or ws at None ≡ None) → ArePlaces keeps ls ws
empty_seats keeps ls ws a b = record {
  many = b.0 ∙ sym a.0;
  each = λ at. subst (λ p. IsSeat keeps p (get_or ws at None)) (sym (a.1 at)) (b.1 at);
}

-- one empty place more
pub empty_more : {A : Type 0} (ls : List (Option A)) → ((at : ℕ) → get_or ls at None ≡ None) → (at : ℕ) → get_or (ls ++ None ∷ []) at None ≡ None
empty_more [] free zero = refl
empty_more [] free (suc at) = refl
empty_more (l ∷ ls) free zero = free zero
empty_more (l ∷ ls) free (suc at) = empty_more ls (λ k. free (suc k)) at
