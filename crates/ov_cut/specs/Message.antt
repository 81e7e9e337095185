-- How a message goes on; for private clauses.
use Rattle.std.specs.Prelude.{◌≡◌, ℕ, ◌+◌, ◌-◌, ◌<◌, ◌≤◌, ◌==◌, List, [], ◌∷◌, ◌++◌, length, take, if◌then◌else◌, Option, Some, None, option_map, count_by}
use Rattle.ov_specs.specs.wire.Balance.{bare, after_quote, after_backslash}
use Rattle.ov_specs.specs.wire.Cut.{cut_from, max_message, TooLong}
use Rattle.ov_cut.specs.declared.message.Found.{Found}
use Rattle.ov_cut.specs.declared.message.Found.TheVariants as found
use Rattle.ov_cut.specs.declared.message.Mode.{Mode}
use Rattle.ov_cut.specs.declared.message.Mode.TheVariants.{Outside, InLiteral, Escaped}
use Rattle.ov_cut.specs.declared.message.Scan.{Scan}

-- what one more byte does to the mode and to the number of open braces
abbrev pub mode_after : Mode → ℕ → ℕ → Mode × ℕ
mode_after Escaped depth x = (InLiteral, depth)
mode_after InLiteral depth x = if x == 34 then (Outside, depth) else (if x == 92 then (Escaped, depth) else (InLiteral, depth))
mode_after Outside depth x =
    if x == 34 then (InLiteral, depth)
    else (if x == 123 then (Outside, depth + 1) else (if x == 125 then (Outside, depth - 1) else (Outside, depth)))

-- how the text without its literals goes on
abbrev pub bare_in : Mode → List ℕ → Option (List ℕ)
bare_in Outside = bare
bare_in InLiteral = after_quote
bare_in Escaped = after_backslash

-- the text leaves this mode, and opened this many more braces than it closed
pub record LeavesMode (text : List ℕ) (mode : Mode) (depth : ℕ) : Type 0 where
  pub kept : List ℕ
  pub reads : (more : List ℕ) → bare (text ++ more) ≡ option_map (λ rest. kept ++ rest) (bare_in mode more)
  pub braces : count_by (λ x. x == 123) kept ≡ count_by (λ x. x == 125) kept + depth

-- a message has begun with this text, which leaves it in this state
pub record IsBegunAs (text : List ℕ) (scan : Scan) : Type 0 where
  pub leaves : LeavesMode text scan.mode scan.depth
  pub low : 0 < scan.depth
  pub high : scan.depth ≤ length text
  pub short : length text ≤ max_message

-- no message has begun, or one with this rest, which leaves it in this state
abbrev pub IsLeftAs : List ℕ → Option Scan → Type 0
IsLeftAs rest None = rest ≡ []
IsLeftAs rest (Some scan) = IsBegunAs rest scan

-- after this front the text brings these messages, and leaves this rest
abbrev pub Brings : List ℕ → List ℕ → List (List ℕ) → List ℕ → Type 0
Brings front text messages rest =
    (at : ℕ) → cut_from max_message at front text ≡ record { messages = messages; rest = rest; damage = None }

-- what becomes of a message that has begun with this front, if this text follows
abbrev pub Finds : List ℕ → List ℕ → Found → Type 0
Finds front text (found.Whole n) = (0 < n) × (n ≤ length text) × Brings front (take n text) ((front ++ take n text) ∷ []) []
Finds front text (found.Begun scan) = IsBegunAs (front ++ text) scan × Brings front text [] (front ++ text)
Finds front text found.TooLong =
    (at : ℕ) → cut_from max_message at front text ≡ record { messages = []; rest = []; damage = Some TooLong }

-- how many looks there were: at each byte of the text up to the message's end
abbrev pub LooksForEnd : ℕ → List ℕ → Found → ℕ → Type 0
LooksForEnd old text (found.Whole n) new = new ≡ old + n
LooksForEnd old text (found.Begun scan) new = new ≡ old + length text
LooksForEnd old text found.TooLong new = new ≤ old + length text
