-- The row that is carried over to each key; for private clauses.
use Rattle.std.specs.Prelude.{Option, option_map, option_and_then}
use Rattle.std.specs.FinMap.{get}
use Rattle.ov_specs.specs.conversion.Carried.{carried_if_kept}
use Rattle.ov_specs.specs.rows.Database.{Row, Database}
use Rattle.ov_specs.specs.rows.Lines.{LineKey}
use Rattle.ov_specs.specs.schema.SchemaTypes.{Schema}
use Rattle.ov_specs.specs.values.Uuid.{Uuid}

-- the row of this key as one of the new schema, if both schemas have its table
abbrev pub carried_at : Schema → Schema → Uuid → Database → LineKey → Row → Option Row
carried_at old new version before key row = option_map (λ r. r.1) (carried_if_kept old new version before (key, row))

-- the row that stands at this key as one of the new schema, if there is one and both schemas have its table
abbrev pub carried_of : Schema → Schema → Uuid → Database → LineKey → Option Row
carried_of old new version before key = option_and_then (carried_at old new version before key) (get before key)
