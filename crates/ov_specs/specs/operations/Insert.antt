-- insert: makes a row of "row" and puts it under the identifier that it chooses, or that was drawn for it (RFC 7047, 5.2.1;
-- ovsdb-server(7), 5.2.1).
use Rattle.std.specs.Prelude.{ℕ, ◌&&◌, ◌||◌, not, List, [], ◌∷◌, filter, Bool, if◌then◌else◌, Option, Some, None, is_some, codes, Result, Ok, Err}
use Rattle.std.specs.FinMap.{contains_key, insert}
use Rattle.serde_json.specs.Data.{Data, Members}
use Rattle.serde_json.specs.Find as find
use Rattle.serde_json.specs.Find.{as_str}
use Rattle.ov_specs.specs.operations.Errors.{OpError, SyntaxError, DuplicateName, DuplicateUuid, ConstraintViolation}
use Rattle.ov_specs.specs.operations.GivenRow.{may_be_new, given_values, with_values, named_value}
use Rattle.ov_specs.specs.operations.InsertedIds.{id_read}
use Rattle.ov_specs.specs.operations.NamedUuids.{is_declared_before, id_at}
use Rattle.ov_specs.specs.operations.Members.{object_at}
use Rattle.ov_specs.specs.operations.OpOutcome.{OpContext, OpOutcome, Done, Fault, names_in, some_or_fault, ok_or_fault, unless_fault, on_table}
use Rattle.ov_specs.specs.rows.Database.{Columns, Database, object_of}
use Rattle.ov_specs.specs.rows.Lines.{LineKey}
use Rattle.ov_specs.specs.rows.RowNames.{row_columns}
use Rattle.ov_specs.specs.rows.Version.{row_now}
use Rattle.ov_specs.specs.schema.Fitting.{fits, default_of}
use Rattle.ov_specs.specs.schema.SchemaTypes.{Column, Table}
use Rattle.ov_specs.specs.values.Results.{result_map, result_and_then, each_or_fault}
use Rattle.ov_specs.specs.values.Uuid.{Uuid, is_id, Names}
use Rattle.ov_specs.specs.values.Value as value
use Rattle.ov_specs.specs.values.Value.{Datum}
use Rattle.ov_specs.specs.values.Writing.{atom_tree}
use Rattle.ov_specs.specs.wire.Message.{has_member}

-- ---- its identifier and its name

-- what is wrong with "uuid", which may be left out: it is neither a text of 36 characters nor ["uuid",text] (ovsdb-server(7),
-- 5.2.1; the two forms are this server's)
abbrev pub uuid_fault : Option Data → Option OpError
uuid_fault None = None
uuid_fault (Some d) = if is_some (id_read d) then None else Some SyntaxError

-- what is wrong with a text as the name of a new row: it is no <id>, or an earlier operation has declared it
abbrev pub name_text_fault : OpContext → ℕ → Option (List ℕ) → Option OpError
name_text_fault c place None = Some SyntaxError
name_text_fault c place (Some name) =
    if not (is_id name) then Some SyntaxError
    else (if is_declared_before name place c.operations then Some DuplicateName else None)

-- what is wrong with "uuid-name", which may be left out (RFC 7047, 5.2.1)
abbrev pub name_fault : OpContext → ℕ → Option Data → Option OpError
name_fault c place None = None
name_fault c place (Some d) = name_text_fault c place (as_str d)

-- ---- its columns

-- the default of a column, if it fits (RFC 7047, 5.2.1; that a default may not fit is this server's)
abbrev pub fitting_default : Column → Result Datum OpError
fitting_default column =
    if fits column.type_of (default_of column.type_of) then Ok (default_of column.type_of) else Err ConstraintViolation

-- the columns that a new row has and that are not given (RFC 7047, 5.2.1)
abbrev pub not_given : Table → Columns → List (List ℕ × Column)
not_given table given = filter (λ c. not (contains_key given c.0)) (row_columns table)

-- the given columns, and the defaults of the others, or the fault of the first that has one (RFC 7047, 5.2.1)
abbrev pub with_defaults : Table → Columns → Result Columns OpError
with_defaults table given =
    result_map (λ defaults. with_values defaults given)
    (each_or_fault (λ c. named_value c.0 (fitting_default c.1)) (not_given table given))

-- all columns of a new row: those that are given, and then the defaults of the others (RFC 7047, 5.2.1)
abbrev pub new_row : Names → Table → Members → Result Columns OpError
new_row names table members = result_and_then (with_defaults table) (given_values may_be_new names table members)

-- ---- the operation

-- the result of an insert: the identifier of its row (RFC 7047, 5.2.1)
abbrev pub insert_result : Uuid → Data
insert_result id = object_of ((codes "uuid", atom_tree (value.Uuid id)) ∷ [])

-- A row of the table has the identifier now. One that was chosen is also taken if a row had it before the transaction, even if
-- that row is deleted now (this is this server's).
abbrev pub is_taken : Database → Database → LineKey → Bool → Bool
is_taken before now key is_chosen = contains_key now key || (is_chosen && contains_key before key)

-- puts the row under its identifier, which may not be taken (RFC 7047, 5.2.1)
abbrev pub put_new : OpContext → Database → List ℕ → Columns → Bool → Uuid → OpOutcome
put_new c rows table columns is_chosen id =
    if is_taken c.before rows (table, id) is_chosen then Fault DuplicateUuid
    else Done (insert_result id) (insert rows (table, id) (row_now c.before c.version (table, id) columns))

-- The insert at this place of the transaction. Its members are checked in this order: "table"; "uuid"; "uuid-name"; "row" (RFC
-- 7047, 5.2.1; the order is this server's).
abbrev pub insert_outcome : OpContext → ℕ → Database → Data → OpOutcome
insert_outcome c place rows d = on_table c d (λ name table.
    unless_fault (uuid_fault (find.get (codes "uuid") d)) (
    unless_fault (name_fault c place (find.get (codes "uuid-name") d)) (
    some_or_fault (object_at (codes "row") d) SyntaxError (λ members.
    ok_or_fault (new_row (names_in c) table members)
    (λ columns. put_new c rows name columns (has_member (codes "uuid") d) (id_at c.ids c.operations place))))))
