use Rattle.std.proofs.Common.{ap, ◌∙◌}
use Rattle.std.specs.List.{list_any}
use Rattle.ov_specs.specs.integrity.Limits.{is_short}
use Rattle.ov_conversion.specs.Asking.{at_key}
use Rattle.ov_conversion.proofs.KeyedRows.{any_at_keys}
use Rattle.ov_conversion.proofs.limits.are_short.Goals as goal

pub loop-key-init : goal.loop-key-init
loop-key-init c =
    let schema = c.args.schema.now in
    let rows = c.args.rows.now in
    ap (list_any (at_key (is_short schema) rows)) (c.into_iter-key-iterator.ensures.into_iter_gives.0 ∙ c.in_ok-key-items.ensures) ∙ any_at_keys (is_short schema) rows
