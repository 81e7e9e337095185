-- The places before any session is served; for private clauses.
use Rattle.std.specs.Prelude.{◌≡◌, ℕ, List, Option, None, length, slice_index_or}

-- a list of this many places, in which there is nothing
abbrev pub AreEmpty : {A : Type 0} → ℕ → List (Option A) → Type 0
AreEmpty {A} count places = (length places ≡ count) × ((at : ℕ) → slice_index_or places at None ≡ None)
