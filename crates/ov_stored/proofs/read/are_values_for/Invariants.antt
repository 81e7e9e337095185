use Rattle.std.proofs.Common.{◌≡◌, drop}
use Rattle.ov_stored.specs.Guessed.{are_values_for}
use Rattle.ov_stored.proofs.Guessed.{are_rest_for}
use Rattle.ov_stored.proofs.read.are_values_for.Given as goal

abbrev pub invariant-loop-name : goal.invariant-loop-name
invariant-loop-name l = are_values_for l.table l.fn.values ≡ are_rest_for (drop l.name-index l.name-items) l.rest
