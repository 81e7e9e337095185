use Rattle.std.proofs.Common.{filter, ap, ◌∙◌}
use Rattle.ov_specs.specs.monitors.Requests as spec
use Rattle.ov_watch.specs.Views.{selects}
use Rattle.ov_watch.specs.declared.select.Kind.TheVariants.{Initial, Insert, Delete, Modify}
use Rattle.ov_watch.proofs.table.monitored.Goals as goal

pub returns : goal.returns
returns c =
    let table = c.args.table.now in
    let name = c.in_ok-from_str.ensures ∙ c.as_str.ensures ∙ ap (λ (t : spec.TableRequests). t.0) c.asked.view_is in
    let requests = c.as_slice-requests.ensures.value ∙ ap (λ (t : spec.TableRequests). t.1) c.asked.view_is in
    let first = c.in_ok-monitored_columns.ensures ∙ ap (λ rs. spec.monitored_columns table (filter (selects Initial) rs)) requests in
    let insert = c.in_ok-monitored_columns-2.ensures ∙ ap (λ rs. spec.monitored_columns table (filter (selects Insert) rs)) requests in
    let delete = c.in_ok-monitored_columns-3.ensures ∙ ap (λ rs. spec.monitored_columns table (filter (selects Delete) rs)) requests in
    let modify = c.in_ok-monitored_columns-4.ensures ∙ ap (λ rs. spec.monitored_columns table (filter (selects Modify) rs)) requests in
    λ i. record { table = name i; initial = first i; insert = insert i; delete = delete i; modify = modify i }
