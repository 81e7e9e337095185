-- Names for the rows that a transaction inserts (RFC 7047, 5.1, <named-uuid>, and 5.2.1).
use Rattle.std.specs.Prelude.{ℕ, zero, suc, ◌+◌, nat_lt, ◌&&◌, Bool, List, if◌then◌else◌, Option, Some, None, option_map, codes}
use Rattle.std.specs.Str.{bytes_eq}
use Rattle.serde_json.specs.Data.{Data, Items, no_items, item}
use Rattle.ov_specs.specs.operations.Members.{text_at}
use Rattle.ov_specs.specs.operations.Draws.{is_insert}
use Rattle.ov_specs.specs.schema.Schema.{is_some_and}
use Rattle.ov_specs.specs.values.Uuid.{Uuid, uuid_at, is_id, Names}

-- An insert whose "uuid-name" is this <id>. The tree alone declares the name, whatever comes of the insert; in another
-- operation the member is ignored (RFC 7047, 5.2.1).
abbrev pub declares : List ℕ → Data → Bool
declares name d = is_insert d && is_id name && is_some_and (bytes_eq name) (text_at (codes "uuid-name") d)

-- the place, from 0, of the first operation that declares the name
abbrev pub place_declared : List ℕ → Items → Option ℕ
place_declared name no_items = None
place_declared name (item d operations) = if declares name d then Some 0 else option_map suc (place_declared name operations)

-- an operation before this place declares the name
abbrev pub is_declared_before : List ℕ → ℕ → Items → Bool
is_declared_before name place operations = is_some_and (λ first. nat_lt first place) (place_declared name operations)

-- how many inserts stand before this place
abbrev pub inserts_before : ℕ → Items → ℕ
inserts_before place no_items = 0
inserts_before zero (item d operations) = 0
inserts_before (suc place) (item d operations) = (if is_insert d then 1 else 0) + inserts_before place operations

-- the identifier of the insert at this place, of those of all inserts in order
abbrev pub id_at : List Uuid → Items → ℕ → Uuid
id_at ids operations place = uuid_at ids (inserts_before place operations)

-- What a name stands for in the whole transaction, even before the operation that declares it: the row of the first insert
-- with this "uuid-name" (RFC 7047, 5.1, <named-uuid>).
abbrev pub uuids_named : List Uuid → Items → Names
uuids_named ids operations name = option_map (id_at ids operations) (place_declared name operations)
