-- Values of a database by row and column.
use Rattle.std.specs.FinMap.{get}
use Rattle.std.specs.Prelude.{ℕ, List, Option, option_and_then}
use Rattle.ov_specs.specs.rows.Database.{Database}
use Rattle.ov_specs.specs.rows.Lines.{LineKey}
use Rattle.ov_specs.specs.values.Value.{Datum}

-- the value of this column in the row with this key, if the database has the row and the row has the column
abbrev pub value_at : Database → LineKey → List ℕ → Option Datum
value_at database key column = option_and_then (λ row. get row.columns column) (get database key)
