use Rattle.std.proofs.Common.{option_map, sym, ap, ◌∙◌}
use Rattle.std.proofs.lemmas.Result.{on_ok_weaker}
use Rattle.std.specs.Option.{option_to_list}
use Rattle.ov_specs.specs.monitors.Requests.{MonitoredTable}
use Rattle.ov_specs.specs.monitors.Updates as spec
use Rattle.ov_specs.specs.rows.Database.{Row, placed}
use Rattle.ov_specs.specs.rows.Lines.{LineKey}
use Rattle.ov_watch.proofs.table_update.put_first.Goals as goal

pub returns-in-Some : goal.returns-in-Some
returns-in-Some c =
    let table = c.args.table.now in
    let row : LineKey × Row = ((table.table, c.args.id.now), c.args.row.now) in
    let told = ap (λ (t : MonitoredTable). option_map (λ names. spec.with_new names row) t.initial) (sym c.table.view_is) ∙ (sym (c.in_ok-update.ensures table.table) ∙ c.in-Some.is) in
    on_ok_weaker c.put_under_id.result (λ put. put ∙ sym (ap (λ o. placed c.args.told.now (option_to_list (spec.under_id row.0 o))) told)) c.put_under_id.ensures

pub returns-in-None : goal.returns-in-None
returns-in-None c =
    let table = c.args.table.now in
    let row : LineKey × Row = ((table.table, c.args.id.now), c.args.row.now) in
    let told = ap (λ (t : MonitoredTable). option_map (λ names. spec.with_new names row) t.initial) (sym c.table.view_is) ∙ (sym (c.in_ok-update.ensures table.table) ∙ c.in-None.is) in
    sym (ap (λ o. placed c.args.told.now (option_to_list (spec.under_id row.0 o))) told)
