-- wait: until the rows that match are, or are not, the given ones (RFC 7047, 5.2.6).
use Rattle.std.specs.Prelude.{ℕ, ℤ, pos, negsuc, ◌&&◌, not, nat_le, List, map, Bool, if◌then◌else◌, Option, Some, None, option_map, option_and_then, option_to_list, unwrap_or, ok_or, codes, Result, Ok, Err}
use Rattle.std.specs.List.{flat_map, list_all, list_any}
use Rattle.std.specs.FinMap.{get}
use Rattle.std.specs.Str.{bytes_eq}
use Rattle.serde_json.specs.Data.{Data, Items, Members}
use Rattle.serde_json.specs.Find as find
use Rattle.serde_json.specs.Find.{as_number, as_object, as_str}
use Rattle.ov_specs.specs.operations.Errors.{OpError, SyntaxError, ConstraintViolation, TimedOut}
use Rattle.ov_specs.specs.operations.MatchingRows.{on_conditions, matching}
use Rattle.ov_specs.specs.rows.RowNames.{row_names}
use Rattle.ov_specs.specs.operations.GivenRow.{row_read}
use Rattle.ov_specs.specs.operations.Select.{projection, listed_columns}
use Rattle.ov_specs.specs.operations.Members.{text_at, array_at}
use Rattle.ov_specs.specs.operations.OpOutcome.{OpContext, OpOutcome, Done, Fault, Blocked, names_in, empty_result, some_or_fault, ok_or_fault, on_table}
use Rattle.ov_specs.specs.rows.Database.{Columns, Database, same_columns}
use Rattle.ov_specs.specs.schema.Fitting.{default_of}
use Rattle.ov_specs.specs.schema.SchemaTypes.{Column, Table, kinds_of}
use Rattle.ov_specs.specs.values.Reading as reading
use Rattle.ov_specs.specs.values.Reading.{Reading, Reads, integer_read, list_read, reads}
use Rattle.ov_specs.specs.values.Results.{result_map, result_and_then, each_or_fault}
use Rattle.ov_specs.specs.values.Uuid.{Names}
use Rattle.ov_specs.specs.values.Value.{Datum}
use Rattle.ov_specs.specs.wire.Tree.{item_list}

-- ---- its members

-- a number that is at least 0
abbrev pub natural : ℤ → Option ℕ
natural (pos n) = Some n
natural (negsuc n) = None

-- the timeout that is there
abbrev pub known_timeout : Option ℕ → Result (Option ℕ) OpError
known_timeout None = Err SyntaxError
known_timeout (Some n) = Ok (Some n)

-- "timeout" in milliseconds: an integer that is at least 0, which may be left out (RFC 7047, 5.2.6)
abbrev pub timeout_read : Option Data → Result (Option ℕ) OpError
timeout_read None = Ok None
timeout_read (Some d) = known_timeout (option_and_then natural (option_and_then integer_read (as_number d)))

-- the compared columns; without "columns", all but `_uuid` and `_version` (RFC 7047, 5.2.6; the default is this server's)
abbrev pub compared_columns : Table → Option Data → Result (List (List ℕ)) OpError
compared_columns table None = Ok (row_names table)
compared_columns table (Some d) = listed_columns table (list_read as_str d)

-- what is waited for: that the rows are equal, or that they are not (RFC 7047, 5.2.6)
pub data Until : Type 0 where
  AreEqual : Until
  AreNotEqual : Until

-- "==" or "!=" (RFC 7047, 5.2.6)
abbrev pub until_of : List ℕ → Option Until
until_of word =
    if bytes_eq word (codes "==") then Some AreEqual else (if bytes_eq word (codes "!=") then Some AreNotEqual else None)

-- ---- the given rows

-- what a tree stands for, by the kinds of the column alone: neither its constraints nor its count are tested
abbrev pub unfitted : Reading Datum → Result Datum OpError
unfitted reading.Unreadable = Err SyntaxError
unfitted reading.Clashing = Err ConstraintViolation
unfitted (Reads datum) = Ok datum

-- the value that is given for one of the compared columns; another column is a syntax error, known or not
abbrev pub told_value : Names → List (List ℕ) → List ℕ → Option Column → Data → Result Datum OpError
told_value names compared name None d = Err SyntaxError
told_value names compared name (Some column) d =
    if list_any (bytes_eq name) compared then unfitted (reads names (kinds_of column.type_of) d) else Err SyntaxError

-- the given values, or the fault of the first that has one (RFC 7047, 5.1, <row>)
abbrev pub told_values : Names → Table → List (List ℕ) → Members → Result Columns OpError
told_values names table compared members =
    row_read (λ name d. told_value names compared name (get table.columns name) d) members

-- the value given for a column, or else its default: that of `_uuid` and of `_version` is the zero UUID (RFC 7047, 5.2.1)
abbrev pub told_or_default : Table → Columns → List ℕ → Option Datum
told_or_default table told name =
    option_map (λ column. unwrap_or (get told name) (default_of column.type_of)) (get table.columns name)

-- a given row, as a row of the table is seen: the compared columns with their names
abbrev pub told_projection : Table → List (List ℕ) → Columns → List (List ℕ × Datum)
told_projection table compared told =
    flat_map (λ name. option_to_list (option_map (λ datum. (name, datum)) (told_or_default table told name))) compared

-- the values of a given row, which is an object (RFC 7047, 5.1, <row>)
abbrev pub told_row : Names → Table → List (List ℕ) → Data → Result Columns OpError
told_row names table compared d = result_and_then (told_values names table compared) (ok_or (as_object d) SyntaxError)

-- the rows of "rows", each read wholly before the next one (RFC 7047, 5.2.6; the order is this server's)
abbrev pub told_rows : Names → Table → List (List ℕ) → Items → Result (List (List (List ℕ × Datum))) OpError
told_rows names table compared items =
    each_or_fault (λ d. result_map (told_projection table compared) (told_row names table compared d)) (item_list items)

-- ---- what comes of it

-- each of the rows is one of the others
abbrev pub are_among : List (List (List ℕ × Datum)) → List (List (List ℕ × Datum)) → Bool
are_among others rows = list_all (λ row. list_any (same_columns row) others) rows

-- the same rows; order and repeats do not count
abbrev pub same_rows : List (List (List ℕ × Datum)) → List (List (List ℕ × Datum)) → Bool
same_rows a b = are_among b a && are_among a b

-- the wait is met (RFC 7047, 5.2.6)
abbrev pub is_met : Until → List (List (List ℕ × Datum)) → List (List (List ℕ × Datum)) → Bool
is_met AreEqual seen told = same_rows seen told
is_met AreNotEqual seen told = not (same_rows seen told)

-- If the wait is not met, the transaction is blocked, and times out once it is as old as the timeout; without one it never
-- does (RFC 7047, 5.2.6).
abbrev pub unmet : ℕ → Option ℕ → OpOutcome
unmet age None = Blocked None
unmet age (Some timeout) = if nat_le timeout age then Fault TimedOut else Blocked (Some timeout)

-- the result {}, once the wait is met (RFC 7047, 5.2.6)
abbrev pub waits : OpContext → Option ℕ → Bool → Database → OpOutcome
waits c timeout met rows = if met then Done empty_result rows else unmet c.age timeout

-- Its members are checked in this order: "table", "timeout", "where", "columns", "until", "rows" (RFC 7047, 5.2.6; the order
-- is this server's).
abbrev pub wait_outcome : OpContext → Database → Data → OpOutcome
wait_outcome c rows d = on_table c d (λ name table.
    ok_or_fault (timeout_read (find.get (codes "timeout") d)) (λ timeout.
    on_conditions c table d (λ conditions.
    ok_or_fault (compared_columns table (find.get (codes "columns") d)) (λ compared.
    some_or_fault (option_and_then until_of (text_at (codes "until") d)) SyntaxError (λ until.
    some_or_fault (array_at (codes "rows") d) SyntaxError (λ items.
    ok_or_fault (told_rows (names_in c) table compared items) (λ told.
    waits c timeout (is_met until (map (projection compared) (matching rows name conditions)) told) rows)))))))
