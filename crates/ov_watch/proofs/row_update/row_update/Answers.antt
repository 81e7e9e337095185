use Rattle.std.proofs.Common.{option_map, sym, ap, ◌∙◌}
use Rattle.std.proofs.lemmas.Result.{IfOk-weaker}
use Rattle.std.specs.Option.{option_copied}
use Rattle.ov_specs.specs.monitors.Requests.{MonitoredTable}
use Rattle.ov_specs.specs.monitors.Updates as spec
use Rattle.ov_watch.proofs.row_update.row_update.Goals as goal

pub returns-in-Some-after : goal.returns-in-Some-after
returns-in-Some-after c name =
    let id = c.args.id.now in
    let after = c.in-Some-after.after.now in
    IfOk-weaker c.new_row.result _ _ (λ o told.
    told ∙ ap (λ (t : MonitoredTable). option_map (λ names. spec.with_new names ((name, id), after)) t.insert) c.table.view_is
    ∙ (λ i. spec.row_update c.args.table.now (name, id) (option_copied (sym c.in_default.is i)) (option_copied (sym c.in-Some-after.is i)))) (c.new_row.ensures name)
