-- update: gives these values to the rows that match (RFC 7047, 5.2.3).
use Rattle.std.specs.Prelude.{List, map, length, codes}
use Rattle.serde_json.specs.Data.{Data}
use Rattle.ov_specs.specs.operations.Errors.{SyntaxError}
use Rattle.ov_specs.specs.operations.GivenRow.{may_be_changed, given_values, given_over}
use Rattle.ov_specs.specs.operations.MatchingRows.{on_conditions, count_result, put_rows, matching}
use Rattle.ov_specs.specs.operations.Members.{object_at}
use Rattle.ov_specs.specs.operations.OpOutcome.{OpContext, OpOutcome, Done, names_in, some_or_fault, ok_or_fault, on_table}
use Rattle.ov_specs.specs.rows.Database.{Columns, Row, Database}
use Rattle.ov_specs.specs.rows.Lines.{LineKey}

-- the columns of a row, with the given ones in their places
abbrev pub updated_row : Columns → LineKey × Row → LineKey × Columns
updated_row given r = (r.0, given_over given r.1.columns)

-- gives the values to each of these rows (RFC 7047, 5.2.3)
abbrev pub updated : OpContext → Columns → List (LineKey × Row) → Database → OpOutcome
updated c given found rows = Done (count_result (length found)) (put_rows c (map (updated_row given) found) rows)

-- Its members are checked in this order: "table", "where", "row" (RFC 7047, 5.2.3; the order is this server's).
abbrev pub update_outcome : OpContext → Database → Data → OpOutcome
update_outcome c rows d = on_table c d (λ name table. on_conditions c table d (λ conditions.
    some_or_fault (object_at (codes "row") d) SyntaxError (λ members.
    ok_or_fault (given_values may_be_changed (names_in c) table members)
    (λ given. updated c given (matching rows name conditions) rows))))
