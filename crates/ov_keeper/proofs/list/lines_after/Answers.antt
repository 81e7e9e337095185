use Rattle.std.proofs.Common.{◌∙◌, ap, sym}
use Rattle.std.specs.FinMap.{empty}
use Rattle.ov_specs.specs.rows.Cells.{after_cell_change}
use Rattle.ov_keeper.specs.Views.{change_view}
use Rattle.ov_keeper.proofs.LineLemmas.{after_cell_changes-take}
use Rattle.ov_keeper.proofs.list.lines_after.Goals as goal

pub loop-change-preserved : goal.loop-change-preserved
loop-change-preserved c =
    c.in_ok-make_change.ensures ∙ ap (after_cell_change (change_view c.change-item.result)) c.loop-change.invariant
    ∙ sym (after_cell_changes-take change_view c.args.changes.now c.loop-change.change-index c.change-item.result empty c.loop-change-test.true c.change-item.is)
