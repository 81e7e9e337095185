-- How many strong references lead to a row.
use Rattle.std.specs.Prelude.{ℕ, ◌&&◌, List, if◌then◌else◌, count_by}
use Rattle.std.specs.FinMap.{get}
use Rattle.ov_refs.specs.Placed.{targets_at}
use Rattle.ov_specs.specs.integrity.Kept.{supports}
use Rattle.ov_specs.specs.integrity.References.{Target, references}
use Rattle.ov_specs.specs.rows.Database.{Database, same_key}
use Rattle.ov_specs.specs.rows.Lines.{LineKey}
use Rattle.ov_specs.specs.schema.SchemaTypes.{Schema}

-- how many strong references of different rows there are to the row of this key
abbrev pub strong_count : Schema → Database → LineKey → ℕ
strong_count schema rows to = count_by (supports to) (references schema rows)

-- ---- for private clauses

-- how many of the targets are this row, strongly
abbrev pub hits : LineKey → List Target → ℕ
hits to targets = count_by (λ target. target.is_strong && same_key target.key to) targets

-- how many strong references to the row `to` the row `from` has, if it exists
abbrev pub hits_at : Schema → Database → LineKey → LineKey → ℕ
hits_at schema rows to from = hits to (targets_at schema from (get rows from))

-- the same, and none if it is that row itself
abbrev pub hits_beside : Schema → Database → LineKey → LineKey → ℕ
hits_beside schema rows to from = if same_key from to then 0 else hits_at schema rows to from
