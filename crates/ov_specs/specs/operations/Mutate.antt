-- mutate: applies the mutations to the rows that match (RFC 7047, 5.2.4).
use Rattle.std.specs.Prelude.{ℕ, List, [], ◌∷◌, length, if◌then◌else◌, codes, Result, Ok}
use Rattle.std.specs.FinMap.{entries, from_entries}
use Rattle.std.specs.Str.{bytes_eq}
use Rattle.serde_json.specs.Data.{Data, Items}
use Rattle.ov_specs.specs.operations.Errors.{OpError, SyntaxError, ConstraintViolation, DomainError, RangeError}
use Rattle.ov_specs.specs.operations.GivenRow.{named_value}
use Rattle.ov_specs.specs.operations.MatchingRows.{on_conditions, count_result, put_rows, matching}
use Rattle.ov_specs.specs.operations.Mutators.{Mutation, mutation_error, mutation_read, MutateError, Domain, Range, Constraint, mutated}
use Rattle.ov_specs.specs.operations.Members.{array_at}
use Rattle.ov_specs.specs.operations.OpOutcome.{OpContext, OpOutcome, Done, names_in, some_or_fault, ok_or_fault, on_table}
use Rattle.ov_specs.specs.rows.Database.{Columns, Row, Database}
use Rattle.ov_specs.specs.rows.Lines.{LineKey}
use Rattle.ov_specs.specs.schema.SchemaTypes.{Table}
use Rattle.ov_specs.specs.values.Results.{result_map, result_map_err, result_and_then, each_or_fault}
use Rattle.ov_specs.specs.values.Uuid.{Names}
use Rattle.ov_specs.specs.values.Value.{Datum}
use Rattle.ov_specs.specs.wire.Tree.{item_list}

-- ---- what is to be done

-- The mutations, each read wholly before the next one, or the fault of the first that has one. No row is looked at for this
-- (RFC 7047, 5.2.4; the order is this server's).
abbrev pub mutations_read : Names → Table → Items → Result (List Mutation) OpError
mutations_read names table items =
    each_or_fault (λ d. result_map_err mutation_error (mutation_read names table d)) (item_list items)

-- ---- what comes of it

-- the error of the operation (RFC 7047, 5.2.4)
abbrev pub mutate_error : MutateError → OpError
mutate_error Domain = DomainError
mutate_error Range = RangeError
mutate_error Constraint = ConstraintViolation

-- what a mutation makes of the value of its column, or the error of the operation (RFC 7047, 5.2.4)
abbrev pub mutated_value : Mutation → Datum → Result Datum OpError
mutated_value m datum = result_map_err mutate_error (mutated m.type_of m.change datum)

-- an entry of a row, with what the mutation makes of its value if its column is the mutation's, and else as it is
abbrev pub entry_mutated : Mutation → List ℕ × Datum → Result (List ℕ × Datum) OpError
entry_mutated m c = if bytes_eq c.0 m.column then named_value c.0 (mutated_value m c.1) else Ok c

-- What a mutation makes of the columns of a row: its own column is mutated, and the others stay, so the row with the mutated
-- value put (RFC 7047, 5.2.4; `a_mutation_changes_its_column_alone`)
abbrev pub column_mutated : Mutation → Columns → Result Columns OpError
column_mutated m columns = result_map from_entries (each_or_fault (entry_mutated m) (entries columns))

-- applies the mutations one after another to the columns of a row; each value is tested before the next mutation (RFC 7047,
-- 5.2.4)
abbrev pub mutated_columns : List Mutation → Columns → Result Columns OpError
mutated_columns [] columns = Ok columns
mutated_columns (m ∷ mutations) columns =
    result_and_then (λ changed. mutated_columns mutations changed) (column_mutated m columns)

-- a row after the mutations
abbrev pub mutated_row : List Mutation → LineKey × Row → Result (LineKey × Columns) OpError
mutated_row mutations r = result_map (λ columns. (r.0, columns)) (mutated_columns mutations r.1.columns)

-- the rows one after another, or the error of the first that has one (RFC 7047, 5.2.4; the order is this server's)
abbrev pub mutated_rows : List Mutation → List (LineKey × Row) → Result (List (LineKey × Columns)) OpError
mutated_rows mutations found = each_or_fault (mutated_row mutations) found

-- applies the mutations to these rows (RFC 7047, 5.2.4)
abbrev pub mutates : OpContext → List Mutation → List (LineKey × Row) → Database → OpOutcome
mutates c mutations found rows =
    ok_or_fault (mutated_rows mutations found) (λ changed. Done (count_result (length found)) (put_rows c changed rows))

-- Its members are checked in this order: "table", "where", "mutations"; and then the rows, in ascending order of their
-- identifiers (RFC 7047, 5.2.4; the order is this server's).
abbrev pub mutate_outcome : OpContext → Database → Data → OpOutcome
mutate_outcome c rows d = on_table c d (λ name table. on_conditions c table d (λ conditions.
    some_or_fault (array_at (codes "mutations") d) SyntaxError (λ items.
    ok_or_fault (mutations_read (names_in c) table items)
    (λ mutations. mutates c mutations (matching rows name conditions) rows))))
