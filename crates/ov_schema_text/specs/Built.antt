-- What is built from the members of a schema, each with its name.
use Rattle.std.specs.Prelude.{ℕ, Bool, List}
use Rattle.ov_specs.specs.schema.SchemaShape as shape
use Rattle.ov_specs.specs.schema.SchemaTypes.{Column, Table}
use Rattle.ov_specs.specs.schema.Schema.{accepted_column, accepted_table}

-- a column with its name
abbrev pub named_column_of : List ℕ × shape.ColumnShape → List ℕ × Column
named_column_of c = (c.0, accepted_column c.1)

-- a table with its name
abbrev pub named_table_of : Bool → List ℕ × shape.TableShape → List ℕ × Table
named_table_of some_root t = (t.0, accepted_table some_root t.1)
