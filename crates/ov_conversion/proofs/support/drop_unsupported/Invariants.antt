use Rattle.std.proofs.Common.{◌≡◌, length}
use Rattle.ov_specs.specs.integrity.Kept.{kept, kept_after}
use Rattle.ov_conversion.proofs.support.drop_unsupported.Given as goal

abbrev pub invariant-loop-row : goal.invariant-loop-row
invariant-loop-row l = kept_after (length l._row-iterator.rest.items) l.schema l.rows ≡ kept l.schema l.fn.rows
