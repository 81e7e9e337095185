use Rattle.std.proofs.Common.{◌≡◌}
use Rattle.ov_refs.specs.Whole.{are_held}
use Rattle.ov_refs.proofs.whole.are_held.Given as goal

abbrev pub invariant-loop-id : goal.invariant-loop-id
invariant-loop-id l = are_held l.name l.id-iterator l.left ≡ are_held l.name l.initial.id-iterator l.initial.left
