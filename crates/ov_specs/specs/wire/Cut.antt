-- How a byte stream is cut into messages: as a relation for the reader, and as a program (RFC 7047, 4 sends JSON-RPC objects
-- without framing).
use Rattle.std.specs.Prelude.{◌≡◌, ◌≢◌, ℕ, ◌+◌, ◌<◌, ◌≤◌, ◌==◌, ◌⊎◌, ◌++◌, List, [], ◌∷◌, length, take, true, false, if◌then◌else◌, nat_lt, All, Option, Some, None}
use Rattle.ov_specs.specs.wire.Balance.{is_space, is_balanced, IsMessage, IsBegun}

-- the longest message, in bytes
abbrev pub max_message : ℕ
max_message = 1048576

-- what makes the rest of a stream unreadable: a byte between messages that begins none, by its offset from 0, or a message over
-- the limit
pub data Damage : Type 0 where
  Stray : (offset : ℕ) → Damage
  TooLong : Damage

-- a stream cut: its messages, then what has arrived of the next one, or damage with an empty rest
pub record Cut : Type 0 where
  pub messages : List (List ℕ)
  pub rest : List ℕ
  pub damage : Option Damage

-- ---- as a relation

-- nothing but white space
abbrev pub AllSpace : List ℕ → Type 0
AllSpace gap = All (λ x. is_space x ≡ true) gap

-- What follows the last message, after `at` bytes, if a message has at most `most` bytes: white space and then nothing or a
-- message that has begun; white space and then a stray byte; white space and then a message that is too long.
abbrev pub Ends : ℕ → ℕ → List ℕ → List ℕ → Option Damage → Type 0
Ends most at tail rest None =
    (gap : List ℕ) × (tail ≡ gap ++ rest) × AllSpace gap × ((rest ≡ []) ⊎ (IsBegun rest × (length rest ≤ most)))
Ends most at tail rest (Some (Stray offset)) =
    (gap following : List ℕ) × (x : ℕ) × (tail ≡ gap ++ x ∷ following) × AllSpace gap × (is_space x ≡ false) × (x ≢ 123)
    × (offset ≡ at + length gap) × (rest ≡ [])
Ends most at tail rest (Some TooLong) =
    (gap text : List ℕ) × (tail ≡ gap ++ text) × AllSpace gap × (most < length text) × IsBegun (take most text) × (rest ≡ [])

-- The stream, after `at` bytes, is these messages, each after white space, and then such an end.
abbrev pub IsCutAt : ℕ → ℕ → List ℕ → List (List ℕ) → List ℕ → Option Damage → Type 0
IsCutAt most at stream [] rest damage = Ends most at stream rest damage
IsCutAt most at stream (message ∷ messages) rest damage =
    (gap following : List ℕ) × (stream ≡ gap ++ (message ++ following)) × AllSpace gap × IsMessage message
    × (length message ≤ most)
    × IsCutAt most (at + (length gap + length message)) following messages rest damage

-- the cut of the whole stream
abbrev pub IsCut : List ℕ → Cut → Type 0
IsCut stream c = IsCutAt max_message 0 stream c.messages c.rest c.damage

-- ---- as a program

-- what one more byte does
pub data AfterByte : Type 0 where
  BetweenMessages : AfterByte
  InsideMessage : (begun : List ℕ) → AfterByte
  WholeMessage : (message : List ℕ) → AfterByte
  FoundDamage : Damage → AfterByte

-- a byte between two messages
abbrev pub after_byte_between : ℕ → ℕ → AfterByte
after_byte_between at x =
    if is_space x then BetweenMessages else (if x == 123 then InsideMessage (123 ∷ []) else FoundDamage (Stray at))

-- the text of a message so far, including the new byte
abbrev pub after_byte_inside : ℕ → List ℕ → AfterByte
after_byte_inside most text =
    if nat_lt most (length text) then FoundDamage TooLong
    else (if is_balanced text then WholeMessage text else InsideMessage text)

-- one more byte, after `at` bytes and a message that has begun, or none
abbrev pub after_byte : ℕ → ℕ → List ℕ → ℕ → AfterByte
after_byte most at [] x = after_byte_between at x
after_byte most at (b ∷ begun) x = after_byte_inside most (b ∷ (begun ++ x ∷ []))

-- one message more in front
abbrev pub with_message : List ℕ → Cut → Cut
with_message message cut = record cut { messages = message ∷ cut.messages }

-- these messages in front
abbrev pub with_messages : List (List ℕ) → Cut → Cut
with_messages messages cut = record cut { messages = messages ++ cut.messages }

-- how the cut goes on; `go` continues it from the message that has begun by then
abbrev pub cut_after : AfterByte → (List ℕ → Cut) → Cut
cut_after BetweenMessages go = go []
cut_after (InsideMessage begun) go = go begun
cut_after (WholeMessage message) go = with_message message (go [])
cut_after (FoundDamage d) go = record { messages = []; rest = []; damage = Some d }

-- the cut of what is still to come, after `at` bytes, the last of them a message that has begun
abbrev pub cut_from : ℕ → ℕ → List ℕ → List ℕ → Cut
cut_from most at begun [] = record { messages = []; rest = begun; damage = None }
cut_from most at begun (x ∷ stream) = cut_after (after_byte most at begun x) (λ begun'. cut_from most (at + 1) begun' stream)

-- the cut of a stream
unfoldable pub cut : List ℕ → Cut
cut stream = cut_from max_message 0 [] stream

-- what follows a cut: nothing if it found damage, else what `go` makes of its rest
abbrev pub continued : List (List ℕ) → List ℕ → Option Damage → (List ℕ → Cut) → Cut
continued messages rest None go = with_messages messages (go rest)
continued messages rest (Some d) go = record { messages = messages; rest = rest; damage = Some d }

-- the cut of a longer stream, by that of its front
abbrev pub continue_cut : Cut → (List ℕ → Cut) → Cut
continue_cut c go = continued c.messages c.rest c.damage go
