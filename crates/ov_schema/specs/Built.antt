-- The parts of a table and of a schema, as those of the definitions.
use Rattle.std.specs.Prelude.{ℕ, List, Vec, Option, map}
use Rattle.std.specs.declared.alloc.Global.{Global}
use Rattle.std.specs.FinMap.{from_entries}
use Rattle.serde_json.specs.Data.{Data}
use Rattle.ov_specs.specs.schema.SchemaTypes.{Table, Schema}

-- lists of texts
abbrev pub indexes_in : List (Vec (List ℕ) Global) → List (List (List ℕ))
indexes_in indexes = map (λ index. index.items) indexes

-- the schema of these parts, read from the tree
abbrev pub schema_of_parts : List ℕ → Option (List ℕ) → List (List ℕ × Table) → Data → Schema
schema_of_parts name version tables tree = record { name = name; version = version; tables = from_entries tables; tree = tree }
