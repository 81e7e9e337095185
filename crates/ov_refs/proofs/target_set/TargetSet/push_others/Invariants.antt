use Rattle.std.proofs.Common.{◌≡◌, ◌++◌, flat_map}
use Rattle.ov_refs.specs.Placed.{lost_one}
use Rattle.ov_refs.proofs.target_set.TargetSet.push_others.Given as goal

abbrev pub invariant-loop-target : goal.invariant-loop-target
invariant-loop-target l =
    l.gone.items ++ flat_map (lost_one l.from l.self.strong l.self.weak) l.target-iterator.rest.items
    ≡ l.fn.gone.items ++ flat_map (lost_one l.from l.self.strong l.self.weak) l.initial.target-iterator.rest.items
