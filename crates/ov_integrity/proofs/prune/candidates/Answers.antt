use Rattle.std.proofs.Common.{◌≡◌, ◌++◌, List, Option, sym, ap, subst, ◌∙◌, append-nil}
use Rattle.std.specs.FinMap.{entries}
use Rattle.std.specs.List.{flat_map}
use Rattle.ov_specs.specs.rows.Database.{Row}
use Rattle.ov_specs.specs.rows.Lines.{LineKey}
use Rattle.ov_integrity.specs.Pruning.{MayDangle, may_dangle_by}
use Rattle.ov_integrity.proofs.Candidates.{candidates_are}
use Rattle.ov_integrity.proofs.prune.candidates.Goals as goal

pub returns : goal.returns
returns c =
    let schema = c.args.schema.now in
    let before = c.args.stage.now.before in
    let now = c.args.stage.now.now in
    let links = c.args.links.now in
    let delta = c.changes.result.now in
    let items = c.loop-key.found.items in
    let each = may_dangle_by schema now links.weak in
    let are : items ≡ flat_map each (entries delta) =
    sym (append-nil items) ∙ sym (ap (λ (es : List (LineKey × Option Row)). items ++ flat_map each es) c.in-None.ensures.steps.0) ∙ c.loop-key.invariant
    ∙ ap (flat_map each) (c.into_iter-key-iterator.ensures.into_iter_gives.0 ∙ c.map-key-items.ensures) in
    subst (MayDangle schema now) (sym are) (candidates_are delta before now c.changes.ensures.made schema links c.requires.whole c.requires.linked)
