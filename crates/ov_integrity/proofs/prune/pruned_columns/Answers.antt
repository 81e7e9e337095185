use Rattle.std.proofs.Common.{sym, ap, ◌∙◌}
use Rattle.std.specs.FinMap.{entries}
use Rattle.ov_rows.proofs.Names.{paired-start, paired-end, zip-entries, paired-empty}
use Rattle.ov_integrity.proofs.PrunedColumns.{with_all_left, pruned_is}
use Rattle.ov_integrity.proofs.prune.pruned_columns.Goals as goal

pub returns : goal.returns
returns c =
    let rows = c.args.stage.now.now in
    let table = c.args.table.now in
    let pairs = c.zip-name-items.ensures in
    let whole =
    paired-start _ _ _ _ _ _ c.into_iter-name-iterator.ensures.into_iter_gives pairs.first c.iter.ensures.rest c.names.ensures (pairs.second ∙ c.values.ensures)
    ∙ zip-entries (entries c.args.columns.now) in
    let end = paired-end _ _ (paired-empty c.loop-name.name-iterator c.next.new.self c.next.result c.in-None.is c.next.ensures.steps) in
    sym (ap (λ cs. with_all_left rows table cs c.loop-name.left) end) ∙ c.loop-name.invariant
    ∙ (λ j. with_all_left rows table (whole j) (c.in_ok-left.ensures j)) ∙ pruned_is rows table c.args.columns.now
