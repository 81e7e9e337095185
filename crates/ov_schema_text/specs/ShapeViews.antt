-- The members of a schema in the code as those of the definitions.
use Rattle.std.specs.Prelude.{ℕ, List, Vec, map, option_map}
use Rattle.std.specs.Borrow.{Bor}
use Rattle.std.specs.declared.alloc.Global.{Global}
use Rattle.serde_json.specs.View.{view}
use Rattle.ov_specs.specs.schema.SchemaShape as shape
use Rattle.ov_atoms.specs.Views.{kind_view}
use Rattle.ov_schema_text.specs.declared.parse.base_shape.TypeName.{TypeName}
use Rattle.ov_schema_text.specs.declared.parse.base_shape.TypeName.TheVariants.{Kind, Real}
use Rattle.ov_schema_text.specs.declared.parse.base_shape.BaseShape.{BaseShape}
use Rattle.ov_schema_text.specs.declared.parse.type_shape.Most.{Most}
use Rattle.ov_schema_text.specs.declared.parse.type_shape.Most.TheVariants.{AtMost, Unlimited}
use Rattle.ov_schema_text.specs.declared.parse.type_shape.TypeShape.{TypeShape}
use Rattle.ov_schema_text.specs.declared.parse.type_shape.ColumnShape.{ColumnShape}
use Rattle.ov_schema_text.specs.declared.parse.table_shape.TableShape.{TableShape}
use Rattle.ov_schema_text.specs.declared.parse.schema_shape.SchemaShape.{SchemaShape}

-- an atomic type's name
abbrev pub name_view : TypeName → shape.TypeName
name_view (Kind of) = shape.Kind (kind_view of)
name_view Real = shape.Real

-- the members of a base type
abbrev pub base_view : BaseShape → shape.BaseShape
base_view b = record {
  of = name_view b.of;
  choices = option_map (λ v. view v.now) b.choices;
  least = b.least;
  greatest = b.greatest;
  shortest = b.shortest;
  longest = b.longest;
  ref_table = option_map (λ s. s.now) b.ref_table;
  ref_type = option_map (λ s. s.now) b.ref_type;
}

-- the maximum count of a type
abbrev pub most_view : Most → shape.Most
most_view (AtMost n) = shape.AtMost n
most_view Unlimited = shape.Unlimited

-- the members of a type
abbrev pub type_view : TypeShape → shape.TypeShape
type_view t =
    record { key = base_view t.key; value = option_map base_view t.value; min = t.min; max = option_map most_view t.max }

-- the members of a column
abbrev pub column_view : ColumnShape → shape.ColumnShape
column_view c = record { type_of = type_view c.type_of; is_ephemeral = c.is_ephemeral; is_mutable = c.is_mutable }

-- a column with its name
abbrev pub named_column_view : Bor (List ℕ) × ColumnShape → List ℕ × shape.ColumnShape
named_column_view c = (c.0.now, column_view c.1)

-- borrowed texts
abbrev pub texts_view : List (Bor (List ℕ)) → List (List ℕ)
texts_view texts = map (λ text. text.now) texts

-- lists of borrowed texts
abbrev pub indexes_view : List (Vec (Bor (List ℕ)) Global) → List (List (List ℕ))
indexes_view indexes = map (λ index. texts_view index.items) indexes

-- the members of a table
abbrev pub table_view : TableShape → shape.TableShape
table_view t = record {
  columns = map named_column_view t.columns.items;
  max_rows = t.max_rows;
  is_root = t.is_root;
  indexes = indexes_view t.indexes.items;
}

-- a table with its name
abbrev pub named_table_view : Bor (List ℕ) × TableShape → List ℕ × shape.TableShape
named_table_view t = (t.0.now, table_view t.1)

-- the members of a schema
abbrev pub schema_view : SchemaShape → shape.SchemaShape
schema_view s =
    record { name = s.name.now; version = option_map (λ v. v.now) s.version; tables = map named_table_view s.tables.items }
