-- How the rows that others refer to strongly are collected; for private clauses.
use Rattle.std.specs.Prelude.{◌≡◌, ◌&&◌, ◌||◌, not, Bool, List, [], Option, Some, None}
use Rattle.std.specs.FinMap.{get, contains_key}
use Rattle.std.specs.List.{list_any}
use Rattle.std.specs.Ordering.{eq_by_cmp}
use Rattle.ov_refs.specs.Holding.{KeySet}
use Rattle.ov_specs.specs.integrity.Kept.{supports}
use Rattle.ov_specs.specs.integrity.References.{Target, RowReference, row_references}
use Rattle.ov_specs.specs.rows.Database.{Row, Database}
use Rattle.ov_specs.specs.rows.Lines.{LineKey, line_cmp}
use Rattle.ov_specs.specs.schema.SchemaTypes.{Schema}

-- the keys of `after` are those of `before` and those of the rows that these references support
abbrev pub Supports : KeySet → List RowReference → KeySet → Type 0
Supports before references after =
    (key : LineKey) → contains_key after key ≡ (contains_key before key || list_any (supports key) references)

-- the target of a row of this key is a strong one, and a different row
abbrev pub is_of_other : LineKey → Target → Bool
is_of_other from target = target.is_strong && not (eq_by_cmp line_cmp target.key from)

-- the references of a row, if there is one
abbrev pub references_of : Schema → LineKey → Option Row → List RowReference
references_of schema key None = []
references_of schema key (Some row) = row_references schema (key, row)

-- the references of the row of this key, if there is one
abbrev pub references_at : Schema → Database → LineKey → List RowReference
references_at schema rows key = references_of schema key (get rows key)
