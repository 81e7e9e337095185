use Rattle.std.proofs.Common.{◌≡◌}
use Rattle.ov_specs.specs.operations.MatchingRows.{without_rows}
use Rattle.ov_conversion.proofs.support.remove_all.Given as goal

abbrev pub invariant-loop-key : goal.invariant-loop-key
invariant-loop-key l = without_rows l.key-iterator.rest.items l.rows ≡ without_rows l.initial.key-iterator.rest.items l.fn.rows
