-- The nested maps of the code as those of the definitions: the keys of each level, and their orders.
use Rattle.std.proofs.Common.{ℕ, List, String, string_bytes, Global, refl}
use Rattle.std.specs.Prelude.{Vec, Result, Ok, Err, IfOk}
use Rattle.std.specs.Cmp.{nat_cmp_total}
use Rattle.std.specs.FinMap.{nat_cmp-IsAntisymmetric}
use Rattle.std.specs.Ordering.{nat_cmp}
use Rattle.ov_specs.specs.schema.SchemaTypes.{name_cmp}
use Rattle.ov_specs.specs.values.Value.{Datum}
use Rattle.ov_specs.proofs.laws.Names.{name_cmp_total, name_exact}
use Rattle.ov_index.specs.IndexKeys.{values_cmp, numbered_cmp, index_cmp}
use Rattle.ov_index.specs.KeyOrder.{values_total, numbered_total, numbered_exact, index_total, index_exact}
use Rattle.ov_index.specs.Nested.{numbered, key_in_table}
use Rattle.ov_index.proofs.IdMaps.{Levels}

-- the values of a vector
abbrev pub items_of : Vec Datum Global → List Datum
items_of values = values.items

-- the number of an index
abbrev pub number_of : ℕ → ℕ
number_of number = number

-- the name of a table
abbrev pub name_of : String Global → List ℕ
name_of name = string_bytes name

-- values in an index by its number
pub by_numbers : Levels number_of nat_cmp values_cmp numbered_cmp numbered
by_numbers = record {
  joins = λ a b c d. refl;
  outer_total = nat_cmp_total;
  outer_exact = nat_cmp-IsAntisymmetric;
  inner_total = values_total;
  total = numbered_total;
  exact = numbered_exact;
  parts = λ p. (p.0, p.1, refl);
}

-- these in a table by its name
pub by_names : Levels name_of name_cmp numbered_cmp index_cmp key_in_table
by_names = record {
  joins = λ a b c d. refl;
  outer_total = name_cmp_total;
  outer_exact = name_exact;
  inner_total = numbered_total;
  total = index_total;
  exact = index_exact;
  parts = λ k. (k.table, (k.number, k.values), refl);
}

pub if_ok : {A E : Type 0} (r : Result A E) (P Q : A → Type 0) → ((a : A) → P a → Q a) → IfOk r P → IfOk r Q
if_ok (Ok a) P Q f p = f a p
if_ok (Err e) P Q f p = tt
