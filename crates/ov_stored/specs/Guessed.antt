-- Whether values in a list are those of a table's columns.
use Rattle.std.specs.Prelude.{List, Bool}
use Rattle.std.specs.Cmp.Lexicographic.{pointwise}
use Rattle.ov_specs.specs.rows.RowNames.{row_columns}
use Rattle.ov_specs.specs.rows.Suits.{is_value_for}
use Rattle.ov_specs.specs.schema.SchemaTypes.{Table}
use Rattle.ov_specs.specs.values.Value.{Datum}

-- one value for each column that each row of the table has, in the order of the columns; for private clauses
abbrev pub are_values_for : Table → List Datum → Bool
are_values_for table values = pointwise (λ c datum. is_value_for c.1 datum) (row_columns table) values
