-- The "row" of an insert and of an update (RFC 7047, 5.1, <row>, 5.2.1 and 5.2.3).
use Rattle.std.specs.Prelude.{ℕ, ◌&&◌, not, List, [], ◌∷◌, Bool, if◌then◌else◌, Option, Some, None, Result, Ok, Err}
use Rattle.std.specs.FinMap.{FinMap, empty, get, insert, entries}
use Rattle.std.specs.declared.cmp.Ordering.{Ordering}
use Rattle.serde_json.specs.Data.{Data, Members}
use Rattle.ov_specs.specs.operations.Errors.{OpError, SyntaxError, UnknownColumn, ConstraintViolation}
use Rattle.ov_specs.specs.rows.RowNames.{is_own_column}
use Rattle.ov_specs.specs.rows.Database.{Columns}
use Rattle.ov_specs.specs.schema.Fitting.{fits}
use Rattle.ov_specs.specs.schema.SchemaTypes.{Column, Table, kinds_of}
use Rattle.ov_specs.specs.values.Reading.{Reading, Reads, Unreadable, Clashing, reads}
use Rattle.ov_specs.specs.values.Results.{result_map, each_or_fault}
use Rattle.ov_specs.specs.values.Uuid.{Names}
use Rattle.ov_specs.specs.values.Value.{Datum}
use Rattle.ov_specs.specs.wire.Tree.{member_list}

-- the columns that a new row may be given: all but `_uuid` and `_version` (RFC 7047, 5.2.1)
abbrev pub may_be_new : List ℕ → Column → Bool
may_be_new name column = not (is_own_column name)

-- the columns that an existing row may be given: those of a new row that are also mutable (RFC 7047, 5.2.3, and 3.2,
-- <column-schema>)
abbrev pub may_be_changed : List ℕ → Column → Bool
may_be_changed name column = not (is_own_column name) && column.is_mutable

-- The value that was read, if it fits its column. A tree that is no value is a syntax error; a key with two values is a value
-- that fits no column (RFC 7047, 5.1).
abbrev pub fitting_reading : Column → Reading Datum → Result Datum OpError
fitting_reading column Unreadable = Err SyntaxError
fitting_reading column Clashing = Err ConstraintViolation
fitting_reading column (Reads datum) = if fits column.type_of datum then Ok datum else Err ConstraintViolation

-- The value that a column is given. In this order: the table has the column (else an unknown column), the column may be
-- given one (else a constraint violation), the tree reads (else a syntax error, or a constraint violation if one key has two
-- values), and its value fits (else a constraint violation).
abbrev pub given_value : (List ℕ → Column → Bool) → Names → List ℕ → Option Column → Data → Result Datum OpError
given_value may_be names name None d = Err UnknownColumn
given_value may_be names name (Some column) d =
    if may_be name column then fitting_reading column (reads names (kinds_of column.type_of) d) else Err ConstraintViolation

-- the map with these entries put in order; a later one replaces an earlier one of its key
abbrev pub with_values : {K V : Type 0} {R : K → K → Ordering} → List (K × V) → FinMap R V → FinMap R V
with_values [] map = map
with_values (entry ∷ more) map = with_values more (insert map entry.0 entry.1)

-- a value with the name of its column
abbrev pub named_value : List ℕ → Result Datum OpError → Result (List ℕ × Datum) OpError
named_value name value = result_map (λ datum. (name, datum)) value

-- The columns that an object names, each with the value that its member gives; or the fault of the first member that has one.
-- A tree has its members in ascending order of their names (RFC 7047, 5.1, <row>).
abbrev pub row_read : (List ℕ → Data → Result Datum OpError) → Members → Result Columns OpError
row_read value members =
    result_map (λ values. with_values values empty)
    (each_or_fault (λ m. named_value m.0 (value m.0 m.1)) (member_list members))

-- the given columns, or the fault of the first that has one (RFC 7047, 5.1, <row>)
abbrev pub given_values : (List ℕ → Column → Bool) → Names → Table → Members → Result Columns OpError
given_values may_be names table members =
    row_read (λ name d. given_value may_be names name (get table.columns name) d) members

-- the columns with the given ones in their places (RFC 7047, 5.2.3)
abbrev pub given_over : Columns → Columns → Columns
given_over given columns = with_values (entries given) columns
