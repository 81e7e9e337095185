-- Columns that tell the rows of a table apart.
use Rattle.std.specs.Prelude.{◌≡◌, ◌&&◌, not, Bool, ℕ, List, map}
use Rattle.std.specs.FinMap.{get}
use Rattle.std.specs.List.{list_all, list_any}
use Rattle.std.specs.Str.{bytes_eq}
use Rattle.ov_specs.specs.operations.Conditions.{Condition}
use Rattle.ov_specs.specs.operations.MatchingRows.{matching}
use Rattle.ov_specs.specs.operations.Select.{projection, without_repeats}
use Rattle.ov_specs.specs.rows.Database.{Database}
use Rattle.ov_specs.specs.rows.RowNames.{is_own_column}
use Rattle.ov_specs.specs.schema.Schema.{is_some_and}
use Rattle.ov_specs.specs.schema.SchemaTypes.{Schema}

-- no two rows of the table of this name, whatever conditions they meet, are equal in all these columns
abbrev pub AreToldApart : Database → List ℕ → List (List ℕ) → Type 0
AreToldApart rows table names =
    (conditions : List Condition)
    → without_repeats (map (projection names) (matching rows table conditions))
    ≡ map (projection names) (matching rows table conditions)

-- the column is among these, and is not one that every row has by itself
abbrev pub has_column : List (List ℕ) → List ℕ → Bool
has_column names column = not (is_own_column column) && list_any (bytes_eq column) names

-- each column of the index is among these
abbrev pub has_index : List (List ℕ) → List (List ℕ) → Bool
has_index names index = list_all (has_column names) index

-- each column of some index of the table of this name is among these
abbrev pub has_any_index : Schema → List ℕ → List (List ℕ) → Bool
has_any_index schema table names = is_some_and (λ t. list_any (has_index names) t.indexes) (get schema.tables table)
