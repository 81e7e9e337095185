use Rattle.std.proofs.Common.{◌≡◌, drop}
use Rattle.ov_stage.specs.Apart.{has_index}
use Rattle.ov_stage.proofs.apart.has_index.Given as goal

abbrev pub invariant-loop-column : goal.invariant-loop-column
invariant-loop-column l = has_index l.names l.index ≡ has_index l.names (drop l.column-index l.index)
