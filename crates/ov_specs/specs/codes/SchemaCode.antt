-- How a model stores a schema, and its parts.
use Rattle.std.specs.Prelude.{◌≡◌, ◌⊎◌, ℕ, ℤ, Bool, List, Option, refl}
use Rattle.std.specs.Coded.{Coded, code_by, coded×, coded⊎, coded_ℕ, coded_ℤ, coded_bool, coded_list, coded_option}
use Rattle.std.specs.FinMap as map
use Rattle.std.specs.FinMap.{FinMap}
use base.Stored.{coded_unit}
use mathlib.Core.Logic.{inl, inr}
use Rattle.serde_json.specs.Data.{Data}
use Rattle.ov_specs.specs.codes.TreeCode.{tree_code}
use Rattle.ov_specs.specs.values.Value.{AtomKind, Integers, Booleans, Texts, Uuids, AtomSet}
use Rattle.ov_specs.specs.codes.ValueCode.{atom_code}
use Rattle.ov_specs.specs.schema.SchemaTypes.{name_cmp, Reference, BaseType, ColumnType, Column, Table, Schema}

-- an atomic type as one of four
abbrev kind_to : AtomKind → Unit {0} ⊎ (Unit {0} ⊎ (Unit {0} ⊎ Unit {0}))
kind_to Integers = inl tt
kind_to Booleans = inr (inl tt)
kind_to Texts = inr (inr (inl tt))
kind_to Uuids = inr (inr (inr tt))

-- and back
abbrev kind_from : Unit {0} ⊎ (Unit {0} ⊎ (Unit {0} ⊎ Unit {0})) → AtomKind
kind_from (inl u) = Integers
kind_from (inr (inl u)) = Booleans
kind_from (inr (inr (inl u))) = Texts
kind_from (inr (inr (inr u))) = Uuids

-- each atomic type comes back
pub kind_from-kind_to : (kind : AtomKind) → kind_from (kind_to kind) ≡ kind
kind_from-kind_to Integers = refl
kind_from-kind_to Booleans = refl
kind_from-kind_to Texts = refl
kind_from-kind_to Uuids = refl

-- the code of an atomic type
abbrev pub kind_code : Coded AtomKind
kind_code =
    code_by (Unit {0} ⊎ (Unit {0} ⊎ (Unit {0} ⊎ Unit {0})))
    (coded⊎ coded_unit (coded⊎ coded_unit (coded⊎ coded_unit coded_unit))) kind_to kind_from kind_from-kind_to

-- the code of a reference, as the pair of its parts
abbrev pub reference_code : Coded Reference
reference_code =
    code_by (List ℕ × Bool) (coded× (coded_list coded_ℕ) coded_bool) (λ r. (r.table, r.is_strong))
    (λ p. record { table = p.0; is_strong = p.1 }) (λ _. refl)

-- the code of two bounds
abbrev bounds_code : Coded (Option ℤ × Option ℤ)
bounds_code = coded× (coded_option coded_ℤ) (coded_option coded_ℤ)

-- the code of an atomic type with its constraints, as pairs of its parts
abbrev pub base_type_code : Coded BaseType
base_type_code =
    code_by ((AtomKind × Option AtomSet) × (((Option ℤ × Option ℤ) × (Option ℤ × Option ℤ)) × Option Reference))
    (coded× (coded× kind_code (coded_option (map.code atom_code coded_unit)))
    (coded× (coded× bounds_code bounds_code) (coded_option reference_code)))
    (λ b. ((b.kind, b.choices), (((b.least, b.greatest), (b.shortest, b.longest)), b.refers)))
    (λ p. record {
      kind = p.0.0;
      choices = p.0.1;
      least = p.1.0.0.0;
      greatest = p.1.0.0.1;
      shortest = p.1.0.1.0;
      longest = p.1.0.1.1;
      refers = p.1.1;
    })
    (λ _. refl)

-- the code of the type of a column, as pairs of its parts
abbrev pub column_type_code : Coded ColumnType
column_type_code =
    code_by ((BaseType × Option BaseType) × (ℤ × Option ℤ))
    (coded× (coded× base_type_code (coded_option base_type_code)) (coded× coded_ℤ (coded_option coded_ℤ)))
    (λ t. ((t.key, t.value), (t.min, t.max)))
    (λ p. record { key = p.0.0; value = p.0.1; min = p.1.0; max = p.1.1 })
    (λ _. refl)

-- the code of a column, as pairs of its parts
abbrev pub column_code : Coded Column
column_code =
    code_by (ColumnType × (Bool × Bool)) (coded× column_type_code (coded× coded_bool coded_bool))
    (λ c. (c.type_of, (c.is_ephemeral, c.is_mutable)))
    (λ p. record { type_of = p.0; is_ephemeral = p.1.0; is_mutable = p.1.1 })
    (λ _. refl)

-- the code of a table, as pairs of its parts
abbrev pub table_code : Coded Table
table_code =
    code_by ((FinMap name_cmp Column × Option ℤ) × (Bool × List (List (List ℕ))))
    (coded× (coded× (map.code (coded_list coded_ℕ) column_code) (coded_option coded_ℤ))
    (coded× coded_bool (coded_list (coded_list (coded_list coded_ℕ)))))
    (λ t. ((t.columns, t.max_rows), (t.is_root, t.indexes)))
    (λ p. record { columns = p.0.0; max_rows = p.0.1; is_root = p.1.0; indexes = p.1.1 })
    (λ _. refl)

-- the code of a schema, as pairs of its parts
abbrev pub schema_code : Coded Schema
schema_code =
    code_by ((List ℕ × Option (List ℕ)) × (FinMap name_cmp Table × Data))
    (coded× (coded× (coded_list coded_ℕ) (coded_option (coded_list coded_ℕ)))
    (coded× (map.code (coded_list coded_ℕ) table_code) tree_code))
    (λ s. ((s.name, s.version), (s.tables, s.tree)))
    (λ p. record { name = p.0.0; version = p.0.1; tables = p.1.0; tree = p.1.1 })
    (λ _. refl)
