use Rattle.std.proofs.Common.{List, sym, ap, ◌∙◌}
use Rattle.std.specs.FinMap.{get}
use Rattle.std.specs.List.{list_any}
use Rattle.ov_specs.specs.integrity.References.{Target, targets_in}
use Rattle.ov_specs.specs.rows.Database.{Row}
use Rattle.ov_conversion.proofs.KeyedRows.{target_misses, row-misses}
use Rattle.ov_conversion.proofs.missing.row_misses.Goals as goal

pub loop-target-init : goal.loop-target-init
loop-target-init c =
    let schema = c.args.schema.now in
    let rows = c.args.rows.now in
    ap (λ (targets : List Target). list_any (target_misses rows) targets)
    (c.into_iter-target-iterator.ensures.into_iter_gives.0 ∙ c.in_ok-target-items.ensures
    ∙ (λ i. targets_in (get schema.tables (c.table.ensures i)) (ap (λ (row : Row). row.columns) c.row.view_is i)))
    ∙ sym (row-misses schema rows (c.args.key.now, c.args.row.now))
