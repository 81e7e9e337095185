use Rattle.std.proofs.Common.{◌≡◌, ◌++◌, drop}
use Rattle.std.specs.List.{filter}
use Rattle.ov_stage.specs.Staging.{meets}
use Rattle.ov_stage.proofs.conditions.meeting.Given as goal

abbrev pub invariant-loop-row : goal.invariant-loop-row
invariant-loop-row l = filter (meets l.conditions) l.row-items ≡ l.met.items ++ filter (meets l.conditions) (drop l.row-index l.row-items)
