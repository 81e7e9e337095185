-- Indexes nested by their tables, their numbers and their values, and the same as one map by keys.
use Rattle.std.specs.Prelude.{ℕ, List, [], ◌∷◌, ◌++◌, map, Vec, String, string_bytes}
use Rattle.std.specs.Coded.{Coded}
use Rattle.std.specs.FinMap as finite
use Rattle.std.specs.FinMap.{FinMap, entries}
use Rattle.std.specs.declared.alloc.Global.{Global}
use Rattle.std.specs.declared.cmp.Ordering.{Ordering}
use Rattle.ov_index.specs.IndexKeys.{IndexKey, NumberedValues, values_cmp, numbered_cmp, index_cmp, index_key, values_code, numbered_code}
use Rattle.ov_index.specs.Indexing.{IdSet, Indexes, id_set_code}
use Rattle.ov_specs.specs.values.Value.{Datum}

-- the rows of one index, by their values
abbrev pub IdsByValues : Type 0
IdsByValues = FinMap values_cmp IdSet

-- the rows of one table in its indexes
abbrev pub TableIndexes : Type 0
TableIndexes = FinMap numbered_cmp IdSet

-- the entries, each with what its key stands for
abbrev pub seen : {A B X : Type 0} → (A → B) → List (A × X) → List (B × X)
seen see = map (λ e. (see e.0, e.1))

-- the entries of all these maps, by keys that are made of the key of a map and the key in it
abbrev pub all_entries : {A C K X : Type 0} {S : C → C → Ordering} → (A → C → K) → List (A × FinMap S X) → List (K × X)
all_entries join [] = []
all_entries join (m ∷ ms) = map (λ e. (join m.0 e.0, e.1)) (entries m.1) ++ all_entries join ms

-- values with the number of their index
abbrev pub numbered : ℕ → List Datum → NumberedValues
numbered number values = (number, values)

-- such values of the table of this name
abbrev pub key_in_table : List ℕ → NumberedValues → IndexKey
key_in_table table p = index_key table p.0 p.1

-- ---- the maps of ascending lists

-- the rows of one index
abbrev pub by_values : List (Vec Datum Global × IdSet) → IdsByValues
by_values es = finite.from_sorted {R = values_cmp} (seen (λ values. values.items) es)

-- those of one table, from its indexes by their numbers
abbrev pub by_number : List (ℕ × IdsByValues) → TableIndexes
by_number ms = finite.from_sorted {R = numbered_cmp} (all_entries numbered ms)

-- those of all tables, from the tables by their names
abbrev pub by_table : List (String Global × TableIndexes) → Indexes
by_table ts = finite.from_sorted {R = index_cmp} (all_entries (λ name. key_in_table (string_bytes name)) ts)

-- ---- how models store them

-- the rows of one index, by their entries
abbrev pub ids_by_values_code : Coded IdsByValues
ids_by_values_code = finite.code values_code id_set_code

-- those of one table, by their entries
abbrev pub table_indexes_code : Coded TableIndexes
table_indexes_code = finite.code numbered_code id_set_code
