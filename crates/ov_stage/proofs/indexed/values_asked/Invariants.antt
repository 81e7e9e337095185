use Rattle.std.proofs.Common.{take}
use Rattle.ov_stage.specs.Asked.{AreValuesOf}
use Rattle.ov_stage.proofs.indexed.values_asked.Given as goal

abbrev pub invariant-loop-column : goal.invariant-loop-column
invariant-loop-column l = AreValuesOf l.conditions (take l.column-index l.index) l.values.items
