-- Rows that are asked by their keys, one after another; for private clauses.
use Rattle.std.specs.Prelude.{Bool}
use Rattle.std.specs.FinMap.{get}
use Rattle.ov_specs.specs.rows.Database.{Row, Database}
use Rattle.ov_specs.specs.rows.Lines.{LineKey}
use Rattle.ov_specs.specs.schema.Schema.{is_some_and}

-- there is a row of this key, and it passes the test
abbrev pub at_key : (LineKey × Row → Bool) → Database → LineKey → Bool
at_key test rows key = is_some_and (λ row. test (key, row)) (get rows key)
