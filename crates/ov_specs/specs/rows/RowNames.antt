-- The names of the columns that the rows of a table have (RFC 7047, 3.2).
use Rattle.std.specs.Prelude.{ℕ, ◌||◌, not, Bool, List, filter, codes}
use Rattle.std.specs.FinMap.{keys, entries}
use Rattle.std.specs.Str.{bytes_eq}
use Rattle.ov_specs.specs.schema.SchemaTypes.{Column, Table}

-- a column that each row has by itself (RFC 7047, 3.2)
abbrev pub is_own_column : List ℕ → Bool
is_own_column name = bytes_eq name (codes "_uuid") || bytes_eq name (codes "_version")

-- these names but `_uuid` and `_version`
abbrev pub without_own : List (List ℕ) → List (List ℕ)
without_own = filter (λ name. not (is_own_column name))

-- the names of the table's columns but `_uuid` and `_version`, ascending
abbrev pub row_names : Table → List (List ℕ)
row_names table = without_own (keys table.columns)

-- these columns but `_uuid` and `_version`, with their names
abbrev pub without_own_columns : List (List ℕ × Column) → List (List ℕ × Column)
without_own_columns = filter (λ c. not (is_own_column c.0))

-- the table's columns but `_uuid` and `_version`, with their names, ascending
abbrev pub row_columns : Table → List (List ℕ × Column)
row_columns table = without_own_columns (entries table.columns)
