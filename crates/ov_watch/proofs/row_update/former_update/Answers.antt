use Rattle.std.proofs.Common.{Some, option_map, sym, ap, ◌∙◌}
use Rattle.std.proofs.lemmas.Result.{IfOk-weaker}
use Rattle.std.specs.Option.{option_copied}
use Rattle.ov_specs.specs.monitors.Requests.{MonitoredTable}
use Rattle.ov_specs.specs.monitors.Updates as spec
use Rattle.ov_watch.proofs.row_update.former_update.Goals as goal

pub returns-in_default : goal.returns-in_default
returns-in_default c name =
    let id = c.args.id.now in
    let before = c.args.before.now in
    IfOk-weaker c.old_row.result _ _ (λ o told.
    told ∙ ap (λ (t : MonitoredTable). option_map (λ names. spec.with_old names ((name, id), before)) t.delete) c.table.view_is
    ∙ ap (λ after. spec.row_update c.args.table.now (name, id) (Some before) (option_copied after)) (sym c.in_default.is)) (c.old_row.ensures name)
