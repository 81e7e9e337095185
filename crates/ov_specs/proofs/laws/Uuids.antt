-- Which texts are read as identifiers, and that they are sixteen bytes.
use Rattle.std.proofs.Common.{◌≡◌, ◌<◌, ◌*◌, ◌+◌, ◌==◌, ◌&&◌, nat_lt, ℕ, List, length, slice_index, Bool, true, false, Some, None, refl, arith, if◌then◌else◌}
use Rattle.std.proofs.lemmas.Bool.{and_parts, and_from, ltb-true, lt-ltb, eqb-true, eq-eqb}
use Rattle.std.proofs.lemmas.Bool.Decides.{nat_tests}
use Rattle.std.proofs.lemmas.List.Sums.{AllPass-from_list_all, list_all-from_AllPass}
use Rattle.std.specs.List.{All, list_all}
use Rattle.uuid.specs.Text.{by_index, is_hex_digit, value_of, byte_of_digits, parsed_simple, parsed_hyphenated, digits_of, has_hyphens}
use Rattle.uuid.proofs.TextLemmas.{by_index_length, by_index_at}
use Rattle.ov_specs.specs.values.Uuid.{Uuid, is_uuid}

abbrev is_byte : ℕ → Bool
is_byte b = nat_lt b 256

pub uuid_bytes : (bytes : Uuid) → is_uuid bytes ≡ true → (length bytes ≡ 16) × All (λ b. b < 256) bytes
uuid_bytes bytes h =
    let parts = and_parts (length bytes == 16) (list_all is_byte bytes) h in
    (eqb-true (length bytes) 16 parts.0, λ k d l. ltb-true _ 256 (AllPass-from_list_all is_byte bytes parts.1 k d l))

pub is_uuid_from : (bytes : Uuid) → length bytes ≡ 16 → All (λ b. b < 256) bytes → is_uuid bytes ≡ true
is_uuid_from bytes len small =
    and_from (length bytes == 16) (list_all is_byte bytes) (eq-eqb (length bytes) 16 len) (list_all-from_AllPass is_byte bytes (λ k d l. lt-ltb _ 256 (small k d l)))

value_of_digit : (c : ℕ) → is_hex_digit c ≡ true → value_of c < 16
value_of_digit c h = grind (arith, nat_tests)

byte_of_two : (a b : ℕ) → a < 16 → b < 16 → a * 16 + b < 256
byte_of_two a b h k = omega arith

-- what a text of thirty-two digits stands for
simple_is_uuid : (hex bytes : List ℕ) → parsed_simple hex ≡ Some bytes → is_uuid bytes ≡ true
simple_is_uuid hex bytes =
    elim ((length hex == 32) && list_all is_hex_digit hex) as (λ t. ((length hex == 32) && list_all is_hex_digit hex) ≡ t → (if t then Some (by_index 16 (byte_of_digits hex)) else None) ≡ Some bytes → is_uuid bytes ≡ true) [
      | true ↦ λ whole e.
          let parts = and_parts (length hex == 32) (list_all is_hex_digit hex) whole in
          let long : length hex ≡ 32 = eqb-true (length hex) 32 parts.0 in
          let digit : (k : ℕ) → k < 32 → value_of (slice_index hex k) < 16 = λ k l. value_of_digit (slice_index hex k) (AllPass-from_list_all is_hex_digit hex parts.1 k 0 (omega arith)) in
          let same : by_index 16 (byte_of_digits hex) ≡ bytes = cc in
          let fits : All (λ b. b < 256) (by_index 16 (byte_of_digits hex)) =
          λ k d l.
          let within : k < 16 = omega (arith, by_index_length 16 (byte_of_digits hex)) in
          rw (by_index_at 16 (byte_of_digits hex) k d within) (byte_of_two _ _ (digit (2 * k) (omega arith)) (digit (2 * k + 1) (omega arith))) in
          rw (← same) (is_uuid_from _ (by_index_length 16 (byte_of_digits hex)) fits)
      | false ↦ λ whole e. cc
    ] refl

-- what a text with hyphens stands for is sixteen bytes
pub hyphenated_is_uuid : (text bytes : List ℕ) → parsed_hyphenated text ≡ Some bytes → is_uuid bytes ≡ true
hyphenated_is_uuid text bytes =
    elim ((length text == 36) && has_hyphens text) as (λ t. (if t then parsed_simple (digits_of text) else None) ≡ Some bytes → is_uuid bytes ≡ true) [
      | true ↦ λ e. simple_is_uuid (digits_of text) bytes e
      | false ↦ λ e. cc
    ]
