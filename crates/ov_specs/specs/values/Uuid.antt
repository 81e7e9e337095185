-- Identifiers, and the names that stand for them in a transaction.
use Rattle.std.specs.Prelude.{◌≡◌, ◌&&◌, ◌||◌, ◌==◌, ℕ, nat_lt, nat_le, List, [], ◌∷◌, length, slice_get, Bool, true, false, Option, Some, None, unwrap_or}
use Rattle.std.specs.List.{list_all}

-- the sixteen bytes of an identifier, most significant first (RFC 4122, 4.1.2)
abbrev pub Uuid : Type 0
Uuid = List ℕ

-- sixteen bytes, each below 256 (RFC 4122, 4.1.2)
abbrev pub is_uuid : Uuid → Bool
is_uuid bytes = (length bytes == 16) && list_all (λ b. nat_lt b 256) bytes

-- the nil UUID (RFC 4122, 4.1.7)
abbrev pub zero_uuid : Uuid
zero_uuid = 0 ∷ 0 ∷ 0 ∷ 0 ∷ 0 ∷ 0 ∷ 0 ∷ 0 ∷ 0 ∷ 0 ∷ 0 ∷ 0 ∷ 0 ∷ 0 ∷ 0 ∷ 0 ∷ []

-- the identifier at this place of a list, from 0, or the nil UUID if the list is too short
abbrev pub uuid_at : List Uuid → ℕ → Uuid
uuid_at ids place = unwrap_or (slice_get ids place) zero_uuid

-- a letter or an underscore (RFC 7047, 3.1, <id>)
abbrev pub begins_id : ℕ → Bool
begins_id c = (nat_le 97 c && nat_le c 122) || (nat_le 65 c && nat_le c 90) || (c == 95)

-- a letter, an underscore or a digit (RFC 7047, 3.1, <id>)
abbrev pub continues_id : ℕ → Bool
continues_id c = begins_id c || (nat_le 48 c && nat_le c 57)

-- [a-zA-Z_][a-zA-Z0-9_]* (RFC 7047, 3.1, <id>)
abbrev pub is_id : List ℕ → Bool
is_id [] = false
is_id (c ∷ cs) = begins_id c && list_all continues_id cs

-- the identifier of the row that a name stands for in a transaction, if an insert gives a row that name (RFC 7047, 5.1,
-- <named-uuid>)
abbrev pub Names : Type 0
Names = List ℕ → Option Uuid

-- no name stands for a row
abbrev pub no_names : Names
no_names name = None

-- whatever a name stands for is an identifier
abbrev pub AreUuids : Names → Type 0
AreUuids names = (name : List ℕ) (bytes : Uuid) → names name ≡ Some bytes → is_uuid bytes ≡ true
