use Rattle.std.proofs.Common.{ap, ◌∙◌}
use Rattle.std.specs.List.{list_any}
use Rattle.ov_conversion.proofs.KeyedRows.{misses_at, misses-is}
use Rattle.ov_conversion.proofs.missing.misses.Goals as goal

pub loop-key-init : goal.loop-key-init
loop-key-init c =
    let schema = c.args.schema.now in
    let rows = c.args.rows.now in
    ap (list_any (misses_at schema rows)) (c.into_iter-key-iterator.ensures.into_iter_gives.0 ∙ c.in_ok-key-items.ensures) ∙ misses-is schema rows
