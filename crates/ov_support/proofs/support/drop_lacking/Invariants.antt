use Rattle.std.proofs.Common.{◌≡◌, ◌+◌, length}
use Rattle.ov_specs.specs.integrity.Kept.{kept}
use Rattle.ov_specs.specs.integrity.References.{references}
use Rattle.ov_support.specs.Linked.{AreLinked}
use Rattle.ov_support.specs.Supporting.{MayLack}
use Rattle.ov_support.proofs.support.drop_lacking.Given as goal

abbrev pub invariant-loop-key : goal.invariant-loop-key
invariant-loop-key l =
    (l.stage.before ≡ l.fn.stage.before) × (kept l.schema l.stage.now ≡ kept l.schema l.fn.stage.now) × AreLinked l.schema l.stage.now l.links.strong l.changes
    × MayLack l.schema l.stage.now l.work.items

abbrev pub decreases-loop-key : goal.decreases-loop-key
decreases-loop-key l = length l.work.items + length (references l.schema l.stage.now)
