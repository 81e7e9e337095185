use Rattle.std.proofs.Common.{◌≡◌, ◌++◌}
use Rattle.std.specs.List.{flat_map}
use Rattle.ov_integrity.specs.Pruning.{may_dangle_by}
use Rattle.ov_integrity.proofs.prune.candidates.Given as goal

abbrev pub invariant-loop-key : goal.invariant-loop-key
invariant-loop-key l = l.found.items ++ flat_map (may_dangle_by l.schema l.stage.now l.links.weak) l.key-iterator ≡ flat_map (may_dangle_by l.schema l.stage.now l.links.weak) l.initial.key-iterator
