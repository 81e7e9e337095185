use Rattle.std.proofs.Common.{◌≡◌, ◌++◌, drop, map}
use Rattle.ov_rows.specs.Lending.{lent_row_of}
use Rattle.ov_specs.specs.rows.Database.{Row}
use Rattle.ov_specs.specs.rows.Lines.{LineKey}
use Rattle.ov_ops.proofs.delete.keys_of.Given as goal

abbrev pub invariant-loop-row : goal.invariant-loop-row
invariant-loop-row l =
    map (λ (r : LineKey × Row). r.0) (map (lent_row_of l.table) l.row-items)
    ≡ l.keys.items ++ map (λ (r : LineKey × Row). r.0) (map (lent_row_of l.table) (drop l.row-index l.row-items))
