-- delete: removes the rows that match (RFC 7047, 5.2.5).
use Rattle.std.specs.Prelude.{List, map, length}
use Rattle.serde_json.specs.Data.{Data}
use Rattle.ov_specs.specs.operations.MatchingRows.{on_conditions, count_result, without_rows, matching}
use Rattle.ov_specs.specs.operations.OpOutcome.{OpContext, OpOutcome, Done, on_table}
use Rattle.ov_specs.specs.rows.Database.{Row, Database}
use Rattle.ov_specs.specs.rows.Lines.{LineKey}

-- without these rows (RFC 7047, 5.2.5)
abbrev pub deletes : List (LineKey × Row) → Database → OpOutcome
deletes found rows = Done (count_result (length found)) (without_rows (map (λ r. r.0) found) rows)

-- Its members are checked in this order: "table", "where" (RFC 7047, 5.2.5; the order is this server's).
abbrev pub delete_outcome : OpContext → Database → Data → OpOutcome
delete_outcome c rows d =
    on_table c d (λ name table. on_conditions c table d (λ conditions. deletes (matching rows name conditions) rows))
