-- The number of sessions that a text gives, by what is known of its parse.
use Rattle.std.proofs.Common.{◌≡◌, ◌≢◌, ℕ, ◌<◌, ◌≤◌, ◌^◌, List, [], ◌∷◌, length, get_or, refl, true, false, Bool, arith}
use Rattle.std.specs.Prelude.{Option, Some, None, Result, if◌then◌else◌, ◌&&◌}
use Rattle.std.specs.Int.{is_in_range}
use Rattle.std.specs.Result.{OkIff}
use Rattle.std.specs.Str.{all_ascii_digits}
use Rattle.std.specs.Str.Parse.{ParsesUnsigned, digits_value}
use Rattle.std.proofs.lemmas.Bool.Decides.{nat_tests}
use Rattle.std.proofs.lemmas.Str.Parse.{IsNumeralModel, numerals_by_value, parse_plain, tells_all_ascii_digits}
use Rattle.ov_words.specs.Words.{sessions_in}

-- the number if these are digits, and otherwise none
abbrev number_by : Bool → ℕ → Option ℕ
number_by are n = if are && is_in_range 1 64 n then Some n else None

within : (n : ℕ) → 1 ≤ n → n ≤ 64 → is_in_range 1 64 n ≡ true
within n low high = grind (arith, nat_tests)

beside : (n : ℕ) → (1 ≤ n → n ≤ 64 → ⊥) → is_in_range 1 64 n ≡ false
beside n out = by (is_in_range 1 64 n) refl
  where
    by : (b : Bool) → is_in_range 1 64 n ≡ b → is_in_range 1 64 n ≡ false
    by true is = absurd (out (grind (arith, nat_tests)) (grind (arith, nat_tests)))
    by false is = is

fits_by : (are : Bool) (n v : ℕ) → are ≡ true → n ≡ v → 1 ≤ n → n ≤ 64 → Some n ≡ number_by are v
fits_by are n v a e low high = rw (a, ← e, within n low high) refl

none_by : (are : Bool) (v : ℕ) → (are ≡ true → v < 2 ^ 64 → ⊥) → None ≡ number_by are v
none_by true v out = rw (beside v (λ low high. out refl (omega arith))) refl
none_by false v out = refl

numerals : IsNumeralModel (λ ds. all_ascii_digits ds ≡ true) (digits_value 10)
numerals = numerals_by_value (λ ds. all_ascii_digits ds ≡ true) tells_all_ascii_digits

-- what a parse says of a text without a leading plus
pub parsed : {E : Type 0} (digits : List ℕ) (r : Result ℕ E) → ParsesUnsigned 64 10 digits r → get_or digits 0 0 ≢ 43
    → OkIff r ((all_ascii_digits digits ≡ true) × (0 < length digits) × (digits_value 10 digits < 2 ^ 64)) (digits_value 10 digits)
parsed digits r h plain = parse_plain numerals 64 digits r h plain

-- a number from 1 to 64
pub sessions_in-fits : (digits : List ℕ) (n : ℕ) → all_ascii_digits digits ≡ true → n ≡ digits_value 10 digits → 1 ≤ n → n ≤ 64
    → Some n ≡ sessions_in digits
sessions_in-fits digits n are is low high = fits_by (all_ascii_digits digits) n (digits_value 10 digits) are is low high

-- a text that is no number
pub sessions_in-none : (digits : List ℕ) → ((all_ascii_digits digits ≡ true) × (0 < length digits) × (digits_value 10 digits < 2 ^ 64) → ⊥) → None ≡ sessions_in digits
sessions_in-none [] out = refl
sessions_in-none (c ∷ cs) out = none_by (all_ascii_digits (c ∷ cs)) (digits_value 10 (c ∷ cs)) (λ are small. out (are, omega arith, small))
