use Rattle.std.proofs.Common.{sym, ap, ◌∙◌}
use Rattle.std.specs.Option.{option_to_list}
use Rattle.ov_specs.specs.monitors.Updates as spec
use Rattle.ov_specs.specs.rows.Database.{placed}
use Rattle.ov_watch.specs.Views.{has_no_members}
use Rattle.ov_watch.proofs.Placing.{none_placed}
use Rattle.ov_watch.proofs.monitor.put_table.Goals as goal

pub returns-then-is_empty : goal.returns-then-is_empty
returns-then-is_empty c xs placed_are =
    sym (ap (λ ms. placed c.args.told.now (option_to_list (spec.under_table c.args.table.now.table ms))) (none_placed xs (sym (ap has_no_members placed_are) ∙ (sym c.is_empty.ensures ∙ c.if-is_empty.true))))
