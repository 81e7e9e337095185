use Rattle.std.proofs.Common.{◌≡◌, ◌||◌, Bool}
use Rattle.ov_specs.specs.rows.Lines.{LineKey}
use Rattle.ov_refs.specs.Placed.{has_target}
use Rattle.ov_refs.proofs.Placing.{has_key}
use Rattle.ov_refs.proofs.target_set.TargetSet.of.Given as goal

abbrev pub invariant-loop-target : goal.invariant-loop-target
invariant-loop-target l =
    (strong : Bool) (to : LineKey) → (has_key strong l.set.strong l.set.weak to || has_target strong to l.target-iterator.rest.items) ≡ has_target strong to l.initial.target-iterator.rest.items
