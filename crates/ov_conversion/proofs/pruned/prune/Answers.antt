use Rattle.std.proofs.Common.{ap, ◌∙◌}
use Rattle.std.proofs.lemmas.Result.{on_ok_weaker}
use Rattle.std.specs.FinMap.{keys}
use Rattle.ov_specs.specs.operations.GivenRow.{with_values}
use Rattle.ov_conversion.proofs.PrunedRows.{pruned-made}
use Rattle.ov_conversion.proofs.pruned.prune.Goals as goal

pub returns : goal.returns
returns c =
    let rows = c.args.rows.now in
    on_ok_weaker c.put_all.result (λ h. h ∙ ap (λ rs. with_values rs rows) c.in_ok-found.ensures
    ∙ pruned-made c.args.schema.now c.args.before.now c.args.version rows (keys rows) (λ i. keys rows)) c.put_all.ensures
