use Rattle.std.proofs.Common.{ap, ◌∙◌, List, Option}
use Rattle.std.specs.List.{list_any}
use Rattle.ov_specs.specs.rows.Database.{Row}
use Rattle.ov_specs.specs.rows.Lines.{LineKey}
use Rattle.ov_integrity.specs.Missing.{misses_by}
use Rattle.ov_integrity.proofs.MissingRows.{misses_are}
use Rattle.ov_integrity.proofs.missing.misses.Goals as goal

pub loop-key-init : goal.loop-key-init
loop-key-init c =
    let schema = c.args.schema.now in
    let stage = c.args.stage.now in
    let links = c.args.links.now in
    let delta = c.changes-changes.result.now in
    ap (λ (es : List (LineKey × Option Row)). list_any (misses_by schema stage.now links.strong delta) es) (c.into_iter-key-iterator.ensures.into_iter_gives.0 ∙ c.map-key-items.ensures)
    ∙ misses_are schema stage.before stage.now links delta c.changes-changes.ensures.made c.requires.whole c.requires.linked
