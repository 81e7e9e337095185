use Rattle.std.proofs.Common.{◌∙◌, ap, sym}
use Rattle.ov_specs.specs.rows.Cells.{after_cell_change}
use Rattle.ov_keeper.specs.declared.change.Change.{Change}
use Rattle.ov_keeper.specs.LineMap.{lines_in}
use Rattle.ov_keeper.specs.Views.{change_view, cells_view}
use Rattle.ov_keeper.proofs.LineLemmas.{from_entries-put, from_entries-taken}
use Rattle.ov_keeper.proofs.line_map.LineMap.make_one.Goals as goal

pub returns-in-Ok-clause-lines : goal.returns-in-Ok-clause-lines
returns-in-Ok-clause-lines c =
    let line = c.in-Put.line in
    let old = c.args.self.now in
    from_entries-put old.rows.entries c.insert.new.self.entries (line.table, line.id) (line.version, cells_view line.cells.items) c.in-Ok.ensures.updates.0
    ∙ sym (ap (λ (change : Change). after_cell_change (change_view change) (lines_in old)) c.in-Put.is)

pub returns-in-Remove-clause-lines : goal.returns-in-Remove-clause-lines
returns-in-Remove-clause-lines c =
    let old = c.args.self.now in
    from_entries-taken old.rows.entries c.remove.new.self.entries (c.in-Remove.table, c.in-Remove.id) c.remove.ensures.updates.0
    ∙ sym (ap (λ (change : Change). after_cell_change (change_view change) (lines_in old)) c.in-Remove.is)
