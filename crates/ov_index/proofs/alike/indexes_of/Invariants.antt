use Rattle.std.proofs.Common.{◌≡◌}
use Rattle.ov_index.specs.Collecting.{with_changes}
use Rattle.ov_index.proofs.alike.indexes_of.Given as goal

abbrev pub invariant-loop-key : goal.invariant-loop-key
invariant-loop-key l = with_changes l.schema l.key-iterator l.indexes ≡ with_changes l.schema l.initial.key-iterator l.initial.indexes
