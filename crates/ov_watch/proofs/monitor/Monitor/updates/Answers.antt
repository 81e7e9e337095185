use Rattle.std.proofs.Common.{sym, ap, ◌∙◌}
use Rattle.ov_stored.specs.Changing.{applied}
use Rattle.ov_specs.specs.monitors.Updates as spec
use Rattle.ov_watch.specs.Views.{has_no_members}
use Rattle.ov_watch.proofs.Placing.{none_placed}
use Rattle.ov_watch.proofs.monitor.Monitor.updates.Goals as goal

pub returns-then-is_empty : goal.returns-then-is_empty
returns-then-is_empty c =
    let rows = c.args.rows.now in
    let tables = spec.table_updates (spec.updated_rows rows (applied c.args.delta.now rows)) c.args.self.now in
    sym (ap spec.unless_nothing (none_placed tables (ap has_no_members (sym c.in_ok-told.ensures) ∙ (sym c.is_empty.ensures ∙ c.if-is_empty.true))))
