-- Rows that lose their weak references to missing rows, one after another.
use Rattle.std.specs.Prelude.{◌≡◌, List, [], ◌∷◌, Bool, true, if◌then◌else◌, Option, Some, None}
use Rattle.std.specs.FinMap.{get, insert, keys}
use Rattle.std.specs.List.{list_any}
use Rattle.ov_refs.specs.Holding.{KeySet, Holders}
use Rattle.ov_specs.specs.integrity.Committed.{dangles, pruned_row}
use Rattle.ov_specs.specs.integrity.Limits.{is_short}
use Rattle.ov_specs.specs.rows.Database.{Row, Database, same_key}
use Rattle.ov_specs.specs.rows.Lines.{LineKey}
use Rattle.ov_specs.specs.schema.Schema.{is_some_and}
use Rattle.ov_specs.specs.schema.SchemaTypes.{Schema}
use Rattle.ov_specs.specs.values.Uuid.{Uuid}

-- the rows with the one of this key, if there is one, without such references
abbrev pub with_pruned : Schema → Database → Uuid → LineKey → Option Row → Database → Database
with_pruned schema before version key None rows = rows
with_pruned schema before version key (Some row) rows = insert rows key (pruned_row schema before version rows (key, row))

-- the same for the row at the key
abbrev pub pruned_at : Schema → Database → Uuid → LineKey → Database → Database
pruned_at schema before version key rows = with_pruned schema before version key (get rows key) rows

-- one row after another
abbrev pub pruned_at_all : Schema → Database → Uuid → List LineKey → Database → Database
pruned_at_all schema before version [] rows = rows
pruned_at_all schema before version (key ∷ keys) rows =
    pruned_at_all schema before version keys (pruned_at schema before version key rows)

-- there is a row at the key, and one of its values is too short
abbrev pub is_short_at : Schema → LineKey → Database → Bool
is_short_at schema key rows = is_some_and (λ row. is_short schema (key, row)) (get rows key)

-- each row with such a reference is one of these
abbrev pub MayDangle : Schema → Database → List LineKey → Type 0
MayDangle schema rows keys =
    (key : LineKey) (row : Row) → get rows key ≡ Some row → dangles schema rows (key, row) ≡ true
    → list_any (same_key key) keys ≡ true

-- ---- for private clauses

-- the keys of those that refer to a row
abbrev pub keys_held : Option KeySet → List LineKey
keys_held None = []
keys_held (Some set) = keys set

-- the key of a change whose row has such a reference; if the row is removed, the keys of its holders
abbrev pub may_dangle_by : Schema → Database → Holders → LineKey × Option Row → List LineKey
may_dangle_by schema rows holders (key, Some row) = if dangles schema rows (key, row) then key ∷ [] else []
may_dangle_by schema rows holders (key, None) = keys_held (get holders key)
