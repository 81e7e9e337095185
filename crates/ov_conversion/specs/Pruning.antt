-- Which rows lose weak references to missing rows; for private clauses.
use Rattle.std.specs.Prelude.{if◌then◌else◌, Option, Some, None, option_and_then}
use Rattle.std.specs.FinMap.{get}
use Rattle.ov_specs.specs.integrity.Committed.{dangles, pruned_row}
use Rattle.ov_specs.specs.rows.Database.{Row, Database}
use Rattle.ov_specs.specs.rows.Lines.{LineKey}
use Rattle.ov_specs.specs.schema.SchemaTypes.{Schema}
use Rattle.ov_specs.specs.values.Uuid.{Uuid}

-- the row without such references, if it has some
abbrev pub repaired : Schema → Database → Uuid → Database → LineKey → Row → Option Row
repaired schema before version rows key row =
    if dangles schema rows (key, row) then Some (pruned_row schema before version rows (key, row)) else None

-- the row of this key without such references, if there is one and it has some
abbrev pub repaired_at : Schema → Database → Uuid → Database → LineKey → Option Row
repaired_at schema before version rows key = option_and_then (repaired schema before version rows key) (get rows key)
