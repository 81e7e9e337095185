use Rattle.std.proofs.Common.{◌≡◌}
use Rattle.ov_support.proofs.ChangedRows.{with_changes}
use Rattle.ov_support.proofs.changes.Changes.of.Given as goal

abbrev pub invariant-loop-key : goal.invariant-loop-key
invariant-loop-key l = with_changes l.schema l.key-iterator l.changes ≡ with_changes l.schema l.initial.key-iterator l.initial.changes
