use Rattle.std.proofs.Common.{◌≡◌, ◌++◌}
use Rattle.ov_integrity.proofs.prune.push_keys.Given as goal

abbrev pub invariant-loop-key : goal.invariant-loop-key
invariant-loop-key l = l.found.items ++ l.key-iterator ≡ l.fn.found.items ++ l.initial.key-iterator
