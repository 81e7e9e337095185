use Rattle.std.proofs.Common.{◌≡◌, drop}
use Rattle.ov_stage.specs.Staging.{meets}
use Rattle.ov_stage.proofs.conditions.meets.Given as goal

abbrev pub invariant-loop-condition : goal.invariant-loop-condition
invariant-loop-condition l = meets l.conditions l.row ≡ meets (drop l.condition-index l.conditions) l.row
