-- What may be wrong at one place of a schema, by the code's names for it.
use Rattle.std.specs.Prelude.{ℕ, pos, not, Bool, List, ◌||◌}
use Rattle.std.specs.List.{list_any}
use Rattle.ov_specs.specs.schema.SchemaShape.{BaseShape, TypeShape, ColumnShape, TableShape, SchemaShape}
use Rattle.ov_specs.specs.schema.Schema.{is_empty, is_some_and, any_table, has_table, below, is_real_type, is_bad_name, is_bad_base_range, is_bad_count, is_bad_reference, is_bad_enum, is_bad_index, is_strong_weak}
use Rattle.ov_schema_text.specs.declared.judge.flaws.BaseFlaw.{BaseFlaw}
use Rattle.ov_schema_text.specs.declared.judge.flaws.BaseFlaw.TheVariants.{Range, Real, RefTable, RefType, Enum}
use Rattle.ov_schema_text.specs.declared.judge.flaws.ColumnFlaw.{ColumnFlaw}
use Rattle.ov_schema_text.specs.declared.judge.flaws.ColumnFlaw.TheVariants as column
use Rattle.ov_schema_text.specs.declared.judge.flaws.TableFlaw.{TableFlaw}
use Rattle.ov_schema_text.specs.declared.judge.flaws.TableFlaw.TheVariants as table

-- of a base type in this schema
abbrev pub base_has : SchemaShape → BaseFlaw → BaseShape → Bool
base_has s Range b = is_bad_base_range b
base_has s Real b = is_real_type b.of
base_has s RefTable b = is_some_and (λ name. not (has_table s name)) b.ref_table
base_has s RefType b = is_bad_reference b
base_has s Enum b = is_bad_enum b

-- of the keys or the values of a type
abbrev pub types_have : SchemaShape → BaseFlaw → TypeShape → Bool
types_have s flaw t = base_has s flaw t.key || is_some_and (base_has s flaw) t.value

-- of a column
abbrev pub column_has : SchemaShape → ColumnFlaw → List ℕ → ColumnShape → Bool
column_has s column.Name name c = is_bad_name name
column_has s column.Count name c = is_bad_count c.type_of
column_has s column.StrongWeak name c = is_strong_weak c.type_of
column_has s (column.Base flaw) name c = types_have s flaw c.type_of

-- of a table
abbrev pub table_has : SchemaShape → TableFlaw → List ℕ → TableShape → Bool
table_has s table.Name name t = is_bad_name name
table_has s table.NoColumns name t = is_empty t.columns
table_has s table.MaxRows name t = below (pos 1) t.max_rows
table_has s table.Index name t = list_any (is_bad_index t) t.indexes
table_has s (table.Column flaw) name t = list_any (λ c. column_has s flaw c.0 c.1) t.columns

-- of some table
abbrev pub shape_has : TableFlaw → SchemaShape → Bool
shape_has flaw s = any_table (table_has s flaw) s
