use Rattle.std.proofs.Common.{◌≡◌}
use Rattle.ov_specs.specs.operations.MatchingRows.{without_rows}
use Rattle.ov_ops.proofs.delete.remove_rows.Given as goal

abbrev pub invariant-loop-key : goal.invariant-loop-key
invariant-loop-key l = record {
  before : l.stage.before ≡ l.fn.stage.before;
  rows : without_rows l.fn.keys.items l.fn.stage.now ≡ without_rows l.key-iterator.rest.items l.stage.now;
}
