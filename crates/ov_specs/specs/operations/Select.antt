-- select: the chosen columns of the rows that match (RFC 7047, 5.2.2).
use Rattle.std.specs.Prelude.{ℕ, not, List, [], ◌∷◌, map, filter, Option, Some, None, option_map, option_to_list, if◌then◌else◌, codes, Result, Ok, Err}
use Rattle.std.specs.List.{list_any, list_all, flat_map}
use Rattle.std.specs.FinMap.{contains_key, keys}
use Rattle.std.specs.Str.{bytes_eq}
use Rattle.serde_json.specs.Data.{Data, array}
use Rattle.serde_json.specs.Find as find
use Rattle.serde_json.specs.Find.{as_str}
use Rattle.serde_json.specs.View.{items_of}
use Rattle.ov_specs.specs.operations.Conditions.{entry_value}
use Rattle.ov_specs.specs.operations.Errors.{OpError, SyntaxError, UnknownColumn}
use Rattle.ov_specs.specs.operations.MatchingRows.{on_conditions, matching}
use Rattle.ov_specs.specs.operations.OpOutcome.{OpContext, OpOutcome, Done, ok_or_fault, on_table}
use Rattle.ov_specs.specs.rows.Database.{Row, Database, object_of, written_column, same_columns}
use Rattle.ov_specs.specs.rows.Lines.{LineKey}
use Rattle.ov_specs.specs.schema.SchemaTypes.{Table}
use Rattle.ov_specs.specs.values.Reading.{list_read}
use Rattle.ov_specs.specs.values.Value.{Datum}

-- ---- what is shown of rows

-- these columns of a row, with their names (RFC 7047, 5.2.2)
abbrev pub projection : List (List ℕ) → LineKey × Row → List (List ℕ × Datum)
projection names r = flat_map (λ name. option_to_list (option_map (λ datum. (name, datum)) (entry_value r name))) names

-- of rows that are equal in all chosen columns, only the first (RFC 7047, 5.2.2)
abbrev pub without_repeats : List (List (List ℕ × Datum)) → List (List (List ℕ × Datum))
without_repeats [] = []
without_repeats (row ∷ rows) = row ∷ filter (λ other. not (same_columns row other)) (without_repeats rows)

-- a row as it is shown (RFC 7047, 5.1, <row>)
abbrev pub written_row : List (List ℕ × Datum) → Data
written_row columns = object_of (map written_column columns)

-- the result of a select (RFC 7047, 5.2.2)
abbrev pub select_result : List (List (List ℕ × Datum)) → Data
select_result rows = object_of ((codes "rows", array (items_of (map written_row rows))) ∷ [])

-- ---- which columns

-- the table's columns that are named, in ascending order
abbrev pub columns_named : Table → List (List ℕ) → List (List ℕ)
columns_named table names = filter (λ name. list_any (bytes_eq name) names) (keys table.columns)

-- Each name is that of a column of the table; a name may occur twice (RFC 7047, 5.2.2).
abbrev pub known_columns : Table → List (List ℕ) → Result (List (List ℕ)) OpError
known_columns table names =
    if list_all (contains_key table.columns) names then Ok (columns_named table names) else Err UnknownColumn

-- the names of "columns", which is an array of texts (RFC 7047, 5.2.2)
abbrev pub listed_columns : Table → Option (List (List ℕ)) → Result (List (List ℕ)) OpError
listed_columns table None = Err SyntaxError
listed_columns table (Some names) = known_columns table names

-- the chosen columns; without "columns", all of them (RFC 7047, 5.2.2)
abbrev pub selected_columns : Table → Option Data → Result (List (List ℕ)) OpError
selected_columns table None = Ok (keys table.columns)
selected_columns table (Some d) = listed_columns table (list_read as_str d)

-- ---- the operation

-- Its members are checked in this order: "table", "where", "columns". The rows are shown in ascending order of their
-- identifiers; of those that are equal in all chosen columns, only the first (RFC 7047, 5.2.2; the orders are this
-- server's).
abbrev pub select_outcome : OpContext → Database → Data → OpOutcome
select_outcome c rows d = on_table c d (λ name table. on_conditions c table d (λ conditions.
    ok_or_fault (selected_columns table (find.get (codes "columns") d)) (λ names.
    Done (select_result (without_repeats (map (projection names) (matching rows name conditions)))) rows)))
