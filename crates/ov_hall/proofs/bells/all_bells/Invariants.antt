use Rattle.std.proofs.Common.{◌≤◌, ◌-◌, vec_len}
use Rattle.std.specs.Prelude.{vec_capacity}
use Rattle.ov_hall.proofs.bells.all_bells.Given as goal

abbrev pub invariant-loop-bells : goal.invariant-loop-bells
invariant-loop-bells l = (l.count ≤ vec_capacity l.bells) × (vec_len l.bells ≤ l.count)

abbrev pub decreases-loop-bells : goal.decreases-loop-bells
decreases-loop-bells l = l.count - vec_len l.bells
