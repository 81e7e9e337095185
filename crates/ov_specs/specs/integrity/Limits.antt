-- What a database has too few, too many, or twice of (RFC 7047, 3.2, <type>, and <table-schema>, maxRows and indexes).
use Rattle.std.specs.Prelude.{ℕ, pos, int_lt, ◌||◌, List, [], ◌∷◌, length, filter, Bool, true, false, Option, Some, None}
use Rattle.std.specs.List.{list_all, list_any}
use Rattle.std.specs.FinMap.{get, entries}
use Rattle.std.specs.Str.{bytes_eq}
use Rattle.ov_specs.specs.rows.Database.{Row, Database, same_datum}
use Rattle.ov_specs.specs.rows.Lines.{LineKey}
use Rattle.ov_specs.specs.schema.Schema.{is_some_and}
use Rattle.ov_specs.specs.schema.SchemaTypes.{Table, Schema}
use Rattle.ov_specs.specs.values.Value.{Datum, count}

-- the rows of the table of this name, in ascending order of their identifiers
abbrev pub rows_of : List ℕ → Database → List (LineKey × Row)
rows_of name rows = filter (λ r. bytes_eq r.0.0 name) (entries rows)

-- ---- too few

-- a value of a column of the table has fewer atoms or pairs than the column's `min` (RFC 7047, 3.2, <type>, min)
abbrev pub has_too_few : Table → List ℕ × Datum → Bool
has_too_few table c = is_some_and (λ column. int_lt (pos (count c.1)) column.type_of.min) (get table.columns c.0)

-- a row has such a value
abbrev pub is_short : Schema → LineKey × Row → Bool
is_short schema r = is_some_and (λ table. list_any (has_too_few table) (entries r.1.columns)) (get schema.tables r.0.0)

-- ---- too many

-- more rows than the table's `maxRows` (RFC 7047, 3.2, <table-schema>, maxRows)
abbrev pub has_too_many : Database → List ℕ × Table → Bool
has_too_many rows t = is_some_and (λ most. int_lt most (pos (length (rows_of t.0 rows)))) t.1.max_rows

-- ---- twice the same

-- both have the same value, or neither has one
abbrev pub is_same_value : Option Datum → Option Datum → Bool
is_same_value (Some a) (Some b) = same_datum a b
is_same_value None None = true
is_same_value a b = false

-- the two rows have the same values in all columns of the index (RFC 7047, 3.2, <table-schema>, indexes)
abbrev pub are_alike : List (List ℕ) → LineKey × Row → LineKey × Row → Bool
are_alike index r s = list_all (λ name. is_same_value (get r.1.columns name) (get s.1.columns name)) index

-- two of the rows have the same values in all columns of the index
abbrev pub has_two_alike : List (List ℕ) → List (LineKey × Row) → Bool
has_two_alike index [] = false
has_two_alike index (r ∷ rs) = list_any (are_alike index r) rs || has_two_alike index rs

-- two rows of the table are alike in an index of it
abbrev pub has_duplicates : Database → List ℕ × Table → Bool
has_duplicates rows t = list_any (λ index. has_two_alike index (rows_of t.0 rows)) t.1.indexes

-- ---- any of these

-- a table has too many rows, or two that are alike in an index
abbrev pub is_over_limits : Schema → Database → Bool
is_over_limits schema rows =
    list_any (has_too_many rows) (entries schema.tables) || list_any (has_duplicates rows) (entries schema.tables)
