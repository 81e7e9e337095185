use Rattle.std.proofs.Common.{◌≡◌}
use Rattle.ov_support.specs.Changes.{with_strong_ones}
use Rattle.ov_support.proofs.changes.Changes.add_change.Given as goal

abbrev pub invariant-loop-target : goal.invariant-loop-target
invariant-loop-target l = with_strong_ones l.key l.target-iterator.rest.items l.self ≡ with_strong_ones l.key l.initial.target-iterator.rest.items l.initial.self
