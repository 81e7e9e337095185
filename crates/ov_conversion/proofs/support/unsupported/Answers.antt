use Rattle.std.proofs.Common.{List, ◌++◌, filter, flat_map, subst, ◌∙◌}
use Rattle.std.specs.FinMap.{empty}
use Rattle.ov_specs.specs.rows.Lines.{LineKey}
use Rattle.ov_conversion.specs.Support.{Supports, references_at}
use Rattle.ov_conversion.proofs.SupportedRows.{lacks_support, unsupported-is}
use Rattle.ov_conversion.proofs.support.unsupported.Goals as goal

pub loop-key-init : goal.loop-key-init
loop-key-init c =
    let schema = c.args.schema.now in
    let rows = c.args.rows.now in
    (λ i. c.new-gone.ensures.items i ++ filter (lacks_support schema c.in_ok-held.held) (c.into_iter-key-iterator.ensures.into_iter_gives.0 i))
    ∙ unsupported-is schema rows c.in_ok-keys.keys.items c.in_ok-held.held c.in_ok-keys.ensures
    (subst (λ (ks : List LineKey). Supports empty (flat_map (references_at schema rows) ks) c.in_ok-held.held) c.as_slice.ensures.value c.in_ok-held.ensures)
