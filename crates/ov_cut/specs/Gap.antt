-- What stands in front of a message; for private clauses.
use Rattle.std.specs.Prelude.{◌≡◌, ◌≢◌, ℕ, ◌+◌, ◌<◌, List, length, take, false, slice_index}
use Rattle.ov_specs.specs.wire.Balance.{is_space}
use Rattle.ov_specs.specs.wire.Cut.{AllSpace}
use Rattle.ov_cut.specs.declared.space.Gap.{Gap}
use Rattle.ov_cut.specs.declared.space.Gap.TheVariants as gap

-- what a text between two messages begins with
abbrev pub IsGap : List ℕ → Gap → Type 0
IsGap text gap.Space = AllSpace text
IsGap text (gap.Brace n) = (n < length text) × AllSpace (take n text) × (slice_index text n ≡ 123)
IsGap text (gap.Stray n) =
    (n < length text) × AllSpace (take n text) × (is_space (slice_index text n) ≡ false) × (slice_index text n ≢ 123)

-- how many looks there were: at the white space, and at the byte that ends it
abbrev pub LooksForGap : ℕ → List ℕ → Gap → ℕ → Type 0
LooksForGap old text gap.Space new = new ≡ old + length text
LooksForGap old text (gap.Brace n) new = new ≡ old + (n + 1)
LooksForGap old text (gap.Stray n) new = new ≡ old + (n + 1)
