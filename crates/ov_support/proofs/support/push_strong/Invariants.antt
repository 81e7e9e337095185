use Rattle.std.proofs.Common.{◌≡◌, ◌++◌}
use Rattle.ov_support.specs.Supporting.{strong_keys}
use Rattle.ov_support.proofs.support.push_strong.Given as goal

abbrev pub invariant-loop-target : goal.invariant-loop-target
invariant-loop-target l = l.work.items ++ strong_keys l.target-iterator.rest.items ≡ l.fn.work.items ++ strong_keys l.initial.target-iterator.rest.items
