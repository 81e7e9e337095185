-- What the rows of a table share.
use Rattle.std.specs.Prelude.{ℕ, List, map}
use Rattle.ov_specs.specs.rows.RowNames.{row_columns, without_own, without_own_columns}
use Rattle.ov_specs.specs.schema.Fitting.{default_of}
use Rattle.ov_specs.specs.schema.SchemaTypes.{Column, Table}
use Rattle.ov_specs.specs.values.Value.{Datum}
use Rattle.ov_atoms.specs.Shape.{Shape}

-- the defaults of these columns
abbrev pub defaults_in : List (List ℕ × Column) → List Datum
defaults_in = map (λ c. default_of c.1.type_of)

-- the names and the defaults of these columns but `_uuid` and `_version`
abbrev pub shape_in : List (List ℕ × Column) → Shape
shape_in columns = record {
  names = without_own (map (λ c. c.0) columns);
  defaults = defaults_in (without_own_columns columns);
}

-- the defaults of the columns that the table's rows have, in ascending order of the columns' names
abbrev pub row_defaults : Table → List Datum
row_defaults table = defaults_in (row_columns table)
