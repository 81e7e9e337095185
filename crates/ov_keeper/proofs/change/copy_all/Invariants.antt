use Rattle.std.proofs.Common.{◌≡◌, take}
use Rattle.ov_keeper.specs.Views.{changes_view}
use Rattle.ov_keeper.proofs.change.copy_all.Given as goal

abbrev pub invariant-loop-change : goal.invariant-loop-change
invariant-loop-change l = changes_view l.copies.items ≡ changes_view (take l.change-index l.changes)
