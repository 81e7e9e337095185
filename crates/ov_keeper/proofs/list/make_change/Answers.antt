use Rattle.std.proofs.Common.{rules, ◌∙◌, ap, sym}
use Rattle.ov_specs.specs.rows.Cells.{after_cell_change}
use Rattle.ov_keeper.specs.declared.change.Change.{Change}
use Rattle.ov_keeper.specs.ListKeeper.{lines_of}
use Rattle.ov_keeper.specs.Views.{change_view}
use Rattle.ov_keeper.proofs.LineLemmas.{lines_of-copy}
use Rattle.ov_keeper.proofs.list.make_change.Goals as goal

pub returns-in_ok-push-in-Put : goal.returns-in_ok-push-in-Put
returns-in_ok-push-in-Put c =
    rw c.in_ok-push-in-Put.ensures.items
    (lines_of-copy c.remove_line.new.lines.items c.in_ok-copy-in-Put.field-0 c.in-Put.line (lines_of c.args.lines.now.items) c.in_ok-copy-in-Put.ensures (search rules)
    ∙ sym (ap (λ (change : Change). after_cell_change (change_view change) (lines_of c.args.lines.now.items)) c.in-Put.is))
