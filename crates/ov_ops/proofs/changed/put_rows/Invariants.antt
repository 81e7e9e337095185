use Rattle.std.proofs.Common.{◌≡◌}
use Rattle.ov_specs.specs.operations.MatchingRows as spec
use Rattle.ov_ops.specs.Outcomes.{context_of}
use Rattle.ov_ops.proofs.changed.put_rows.Given as goal

abbrev pub invariant-loop-key : goal.invariant-loop-key
invariant-loop-key g l = record {
  before : l.stage.before ≡ l.fn.stage.before;
  rows : spec.put_rows (context_of g.O.Owns.owned l.ctx l.fn.stage.before) l.fn.changed.items l.fn.stage.now ≡ spec.put_rows (context_of g.O.Owns.owned l.ctx l.fn.stage.before) l.key-iterator.rest.items l.stage.now;
}
