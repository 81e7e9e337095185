-- Which texts are messages on a byte stream: JSON objects, recognized by their braces alone (RFC 7047, 4 sends JSON-RPC
-- objects without framing).
use Rattle.std.specs.Prelude.{◌≡◌, ℕ, ◌<◌, ◌≤◌, ◌==◌, ◌||◌, List, [], ◌∷◌, length, take, Bool, true, false, if◌then◌else◌, count_by, Option, Some, None, option_map, slice_get}

-- white space: space, tab, line feed, carriage return (RFC 8259, 2)
abbrev pub is_space : ℕ → Bool
is_space x = (x == 32) || ((x == 9) || ((x == 10) || (x == 13)))

-- The text without its literals, which are found from left to right; None if a quote is left over. A literal is a quote,
-- then units that are one byte other than a quote and a backslash, or a backslash and one byte, then a quote (RFC 8259, 7).
abbrev mutual
  pub bare : List ℕ → Option (List ℕ)
  bare [] = Some []
  bare (x ∷ text) = if x == 34 then after_quote text else option_map (λ rest. x ∷ rest) (bare text)

  -- inside a literal: up to its quote; a backslash also takes the byte after it
  pub after_quote : List ℕ → Option (List ℕ)
  after_quote [] = None
  after_quote (x ∷ text) = if x == 34 then bare text else (if x == 92 then after_backslash text else after_quote text)

  -- after a backslash inside a literal
  pub after_backslash : List ℕ → Option (List ℕ)
  after_backslash [] = None
  after_backslash (x ∷ text) = after_quote text

-- as many opening braces as closing ones; a text with a quote left over has no count
abbrev pub has_equal_braces : Option (List ℕ) → Bool
has_equal_braces None = false
has_equal_braces (Some text) = count_by (λ x. x == 123) text == count_by (λ x. x == 125) text

-- as many opening braces as closing ones, not counting those inside literals
abbrev pub is_balanced : List ℕ → Bool
is_balanced text = has_equal_braces (bare text)

-- a message begins with a brace and is balanced, and no shorter prefix of it but the empty one is balanced
pub record IsMessage (text : List ℕ) : Type 0 where
  pub begins : slice_get text 0 ≡ Some 123
  pub balanced : is_balanced text ≡ true
  pub shortest : (n : ℕ) → 0 < n → n < length text → is_balanced (take n text) ≡ false

-- a message that has begun and has not ended
pub record IsBegun (text : List ℕ) : Type 0 where
  pub begins : slice_get text 0 ≡ Some 123
  pub unclosed : (n : ℕ) → 0 < n → n ≤ length text → is_balanced (take n text) ≡ false
