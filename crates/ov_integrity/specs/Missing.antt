-- How a strong reference to a missing row is found by what a transaction has changed; for private clauses.
use Rattle.std.specs.Prelude.{not, Bool, Option, Some, None}
use Rattle.std.specs.FinMap.{get, contains_key, keys}
use Rattle.std.specs.List.{list_any}
use Rattle.ov_stored.specs.Changing.{Delta}
use Rattle.ov_refs.specs.Holding.{Holders}
use Rattle.ov_specs.specs.integrity.Committed.{is_missing}
use Rattle.ov_specs.specs.integrity.References.{row_references}
use Rattle.ov_specs.specs.rows.Database.{Row, Database}
use Rattle.ov_specs.specs.rows.Lines.{LineKey}
use Rattle.ov_specs.specs.schema.Schema.{is_some_and}
use Rattle.ov_specs.specs.schema.SchemaTypes.{Schema}

-- an unchanged row refers to the one of this key
abbrev pub is_held_beside : Holders → Delta → LineKey → Bool
is_held_beside holders changes key =
    is_some_and (λ set. list_any (λ from. not (contains_key changes from)) (keys set)) (get holders key)

-- the row that a change puts refers to a missing row, or an unchanged row refers to the row that the change removes
abbrev pub misses_by : Schema → Database → Holders → Delta → LineKey × Option Row → Bool
misses_by schema rows holders changes (key, Some row) = list_any (is_missing rows) (row_references schema (key, row))
misses_by schema rows holders changes (key, None) = is_held_beside holders changes key
