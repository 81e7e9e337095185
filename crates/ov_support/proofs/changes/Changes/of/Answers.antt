use Rattle.std.proofs.Common.{sym, ap, ◌∙◌, List, Option}
use Rattle.ov_specs.specs.rows.Database.{Row}
use Rattle.ov_specs.specs.rows.Lines.{LineKey}
use Rattle.ov_support.specs.Changes.{Changes}
use Rattle.ov_support.proofs.ChangedRows.{with_changes, changes_are}
use Rattle.ov_support.proofs.changes.Changes.of.Goals as goal

pub returns : goal.returns
returns c =
    let schema = c.args.schema.now in
    let none : Changes = record { keys = c.new.result; strong = c.new-2.result } in
    changes_are schema c.args.stage.now.before c.args.stage.now.now c.changes.result.now none c.loop-key.changes c.new.ensures c.new-2.ensures c.changes.ensures.made
    (sym (ap (λ (es : List (LineKey × Option Row)). with_changes schema es c.loop-key.changes) c.in-None.ensures.steps.0) ∙ c.loop-key.invariant
    ∙ ap (λ (es : List (LineKey × Option Row)). with_changes schema es none) (c.into_iter-key-iterator.ensures.into_iter_gives.0 ∙ c.map-key-items.ensures))
