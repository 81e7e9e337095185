use Rattle.std.proofs.Common.{◌≡◌}
use Rattle.ov_rows.proofs.Names.{paired}
use Rattle.ov_conversion.proofs.PrunedRows.{with_all_left}
use Rattle.ov_conversion.proofs.pruned.pruned_columns.Given as goal

abbrev pub invariant-loop-name : goal.invariant-loop-name
invariant-loop-name l =
    with_all_left l.rows l.table (paired l.name-iterator.a.rest.now l.name-iterator.b) l.left
    ≡ with_all_left l.rows l.table (paired l.initial.name-iterator.a.rest.now l.initial.name-iterator.b) l.initial.left
