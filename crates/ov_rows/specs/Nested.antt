-- Rows, or what belongs to each of them, nested by their tables, and the same by the keys of the rows.
use Rattle.std.specs.Prelude.{ℕ, List, [], ◌∷◌, ◌++◌, map, Option, Some, None}
use Rattle.std.specs.declared.cmp.Ordering.{Ordering}
use Rattle.std.specs.Ordering.{nat_cmp}
use Rattle.std.specs.Cmp.Lexicographic.{slice_cmp}
use Rattle.std.specs.FinMap.{FinMap, entries}
use Rattle.ov_specs.specs.rows.Database.{Row}
use Rattle.ov_specs.specs.rows.Lines.{LineKey}
use Rattle.ov_specs.specs.values.Uuid.{Uuid}

-- the order of identifiers, by their bytes
abbrev pub id_cmp : Uuid → Uuid → Ordering
id_cmp = slice_cmp nat_cmp

-- what belongs to the rows of one table, by their identifiers
abbrev pub OfTable : Type 0 → Type 0
OfTable V = FinMap id_cmp V

-- the rows of one table, by their identifiers
abbrev pub TableRows : Type 0
TableRows = OfTable Row

-- these rows of the table of this name, or what belongs to them, by their keys
abbrev pub in_table : {V : Type 0} → List ℕ → List (Uuid × V) → List (LineKey × V)
in_table name = map (λ r. ((name, r.0), r.1))

-- the rows of the table of this name, by their keys; none if there is no such table
abbrev pub rows_in : {V : Type 0} → List ℕ → Option (OfTable V) → List (LineKey × V)
rows_in name None = []
rows_in name (Some table) = in_table name (entries table)

-- the rows of all these tables, by their keys
abbrev pub all_rows : {V : Type 0} → List (List ℕ × OfTable V) → List (LineKey × V)
all_rows [] = []
all_rows (t ∷ ts) = in_table t.0 (entries t.1) ++ all_rows ts
