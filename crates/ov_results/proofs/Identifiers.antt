-- The text of an identifier as a JSON text. None of its characters is escaped.
use Rattle.std.proofs.Common.{◌≡◌, if◌then◌else◌, ℕ, zero, suc, ◌+◌, ◌-◌, ◌<◌, ◌≤◌, List, [], ◌∷◌, ◌++◌, true, false, refl, ◌∙◌, rules, nat_lt}
use Rattle.std.proofs.lemmas.List.Concat.{flat_map-append}
use Rattle.json.specs.Print.{escape, escape_byte}
use Rattle.uuid.specs.Text.{by_index, hex_digit, hyphen, hyphenated_text, is_hyphen_place, digit_place, nibble, lower}

plain_text : (n : ℕ) (f : ℕ → ℕ) → ((k : ℕ) → escape_byte (f k) ≡ f k ∷ []) → escape (by_index n f) ≡ by_index n f
unfolding by_index
plain_text zero f plain = refl
plain_text (suc n) f plain = flat_map-append escape_byte (by_index n f) (f n ∷ []) ∙ (λ i. plain_text n f plain i ++ (plain n i ++ []))

-- a byte from 97 on stands for itself
plain_letter : (n : ℕ) → 97 ≤ n → escape_byte n ≡ n ∷ []
unfolding escape_byte
plain_letter n high = search rules

plain_number : (n : ℕ) → n < 10 → escape_byte (48 + n) ≡ (48 + n) ∷ []
unfolding escape_byte
plain_number n low = search rules

plain_digit : (n : ℕ) → escape_byte (hex_digit lower n) ≡ hex_digit lower n ∷ []
plain_digit n =
    elim (nat_lt n 10) as (λ b. nat_lt n 10 ≡ b → escape_byte (if b then 48 + n else 97 + n - 10) ≡ (if b then 48 + n else 97 + n - 10) ∷ []) [
      | true ↦ λ low. plain_number n (search (low, rules))
      | false ↦ λ high. plain_letter (97 + n - 10) (search (high, rules))
    ] refl

plain_place : (xs : List ℕ) (k : ℕ) → let c = (if is_hyphen_place k then hyphen else hex_digit lower (nibble xs (digit_place k))) in escape_byte c ≡ c ∷ []
unfolding escape_byte
plain_place xs k =
    elim (is_hyphen_place k) as (λ b. escape_byte (if b then hyphen else hex_digit lower (nibble xs (digit_place k))) ≡ (if b then hyphen else hex_digit lower (nibble xs (digit_place k))) ∷ []) [
      | true ↦ refl
      | false ↦ plain_digit (nibble xs (digit_place k))
    ]

-- an identifier's text is written as it is
pub escape-identifier : (id : List ℕ) → escape (hyphenated_text lower id) ≡ hyphenated_text lower id
escape-identifier id = plain_text 36 _ (plain_place id)
