-- How many identifiers are drawn for a transaction (RFC 7047, 5.2.1).
use Rattle.std.specs.Prelude.{ℕ, ◌+◌, Bool, if◌then◌else◌, codes}
use Rattle.serde_json.specs.Data.{Data, Items, no_items, item}
use Rattle.ov_specs.specs.operations.Members.{text_at}
use Rattle.ov_specs.specs.values.Reading.{is_word}

-- an object whose "op" is "insert", whatever else it has (RFC 7047, 5.2.1)
abbrev pub is_insert : Data → Bool
is_insert d = is_word (codes "insert") (text_at (codes "op") d)

-- how many of them
abbrev pub insert_count : Items → ℕ
insert_count no_items = 0
insert_count (item d operations) = (if is_insert d then 1 else 0) + insert_count operations

-- how many identifiers are drawn: the version, and one for each insert, even one that will be refused
abbrev pub draws_wanted : Items → ℕ
draws_wanted operations = 1 + insert_count operations
