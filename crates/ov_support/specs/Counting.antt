-- A table that has too many rows, by its name.
use Rattle.std.specs.Prelude.{◌≡◌, ℕ, ℤ, pos, int_lt, List, Bool, false}
use Rattle.std.specs.FinMap.{get}
use Rattle.ov_specs.specs.integrity.Limits.{has_too_many}
use Rattle.ov_specs.specs.rows.Database.{Database}
use Rattle.ov_specs.specs.schema.Schema.{is_some_and}
use Rattle.ov_specs.specs.schema.SchemaTypes.{Schema}

-- there is a table of this name, and it has more rows than its `maxRows`
abbrev pub is_overfull : Schema → Database → List ℕ → Bool
is_overfull schema rows name = is_some_and (λ table. has_too_many rows (name, table)) (get schema.tables name)

-- the count is no more than this number
abbrev pub IsAtMost : ℕ → ℤ → Type 0
IsAtMost count most = int_lt most (pos count) ≡ false
