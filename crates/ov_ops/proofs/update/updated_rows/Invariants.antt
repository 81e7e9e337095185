use Rattle.std.proofs.Common.{◌≡◌, ◌++◌, drop, map}
use Rattle.ov_rows.specs.Lending.{lent_row_of}
use Rattle.ov_specs.specs.operations.Update.{updated_row}
use Rattle.ov_ops.proofs.update.updated_rows.Given as goal

abbrev pub invariant-loop-row : goal.invariant-loop-row
invariant-loop-row l =
    map (updated_row l.given) (map (lent_row_of l.table) l.row-items)
    ≡ l.changed.items ++ map (updated_row l.given) (map (lent_row_of l.table) (drop l.row-index l.row-items))
