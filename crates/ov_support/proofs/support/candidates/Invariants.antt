use Rattle.std.proofs.Common.{◌++◌, flat_map}
use Rattle.ov_support.specs.Supporting.{MayLack}
use Rattle.ov_support.proofs.SupportedRows.{lost_at}
use Rattle.ov_support.proofs.support.candidates.Given as goal

abbrev pub invariant-loop-key : goal.invariant-loop-key
invariant-loop-key l = MayLack l.schema l.stage.now (l.work.items ++ flat_map (lost_at l.schema l.stage.before) l.key-iterator)
