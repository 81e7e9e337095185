-- The rows that an operation is about, and what it leaves of them (RFC 7047, 5.2.2 to 5.2.5).
use Rattle.std.specs.Prelude.{ℕ, ◌&&◌, List, [], ◌∷◌, filter, Bool, codes, Result}
use Rattle.std.specs.List.{list_all}
use Rattle.std.specs.FinMap.{insert, remove, entries}
use Rattle.std.specs.Str.{bytes_eq}
use Rattle.serde_json.specs.Data.{Data, number, unsigned, Items}
use Rattle.ov_specs.specs.operations.Conditions.{Condition, condition_error, condition_read, entry_value, holds}
use Rattle.ov_specs.specs.operations.Errors.{OpError, SyntaxError}
use Rattle.ov_specs.specs.operations.Members.{array_at}
use Rattle.ov_specs.specs.operations.OpOutcome.{OpContext, OpOutcome, names_in, some_or_fault, ok_or_fault}
use Rattle.ov_specs.specs.rows.Database.{Columns, Row, Database, object_of}
use Rattle.ov_specs.specs.rows.Lines.{LineKey}
use Rattle.ov_specs.specs.rows.Version.{row_now}
use Rattle.ov_specs.specs.schema.SchemaTypes.{Table}
use Rattle.ov_specs.specs.values.Results.{result_map_err, each_or_fault}
use Rattle.ov_specs.specs.values.Uuid.{Names}
use Rattle.ov_specs.specs.wire.Tree.{item_list}

-- ---- the conditions

-- The conditions of a "where", each read wholly before the next one, or the error of the first that does not read (RFC 7047,
-- 5.2.2; the order is this server's).
abbrev pub conditions_read : Names → Table → Items → Result (List Condition) OpError
conditions_read names table items =
    each_or_fault (λ d. result_map_err condition_error (condition_read names table d)) (item_list items)

-- The conditions of "where", which is an array of them; each is read wholly before the next one (RFC 7047, 5.2.2).
abbrev pub on_conditions : OpContext → Table → Data → (List Condition → OpOutcome) → OpOutcome
on_conditions c table d next =
    some_or_fault (array_at (codes "where") d) SyntaxError (λ items. ok_or_fault (conditions_read (names_in c) table items) next)

-- ---- the rows

-- the row meets all conditions; without a condition each row does (RFC 7047, 5.2.2)
abbrev pub meets_all : List Condition → LineKey × Row → Bool
meets_all conditions r = list_all (holds (entry_value r)) conditions

-- it is one of the table, and meets all conditions
abbrev pub is_matching : List ℕ → List Condition → LineKey × Row → Bool
is_matching table conditions r = bytes_eq r.0.0 table && meets_all conditions r

-- these rows, in ascending order of their identifiers
abbrev pub matching : Database → List ℕ → List Condition → List (LineKey × Row)
matching rows table conditions = filter (is_matching table conditions) (entries rows)

-- the result of an operation that counts the rows that match, changed or not (RFC 7047, 5.2.3 to 5.2.5)
abbrev pub count_result : ℕ → Data
count_result n = object_of ((codes "count", number (unsigned n)) ∷ [])

-- The rows with these columns at these keys. The version of each follows from the database before the transaction (RFC 7047,
-- 3.2).
abbrev pub put_rows : OpContext → List (LineKey × Columns) → Database → Database
put_rows c [] rows = rows
put_rows c (r ∷ changed) rows = put_rows c changed (insert rows r.0 (row_now c.before c.version r.0 r.1))

-- the rows without those of these keys
abbrev pub without_rows : List LineKey → Database → Database
without_rows [] rows = rows
without_rows (key ∷ keys) rows = without_rows keys (remove rows key)
