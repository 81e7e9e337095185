use Rattle.std.proofs.Common.{◌≡◌, length}
use Rattle.ov_specs.specs.operations.MatchingRows.{without_rows}
use Rattle.ov_stored.specs.Adding.{lent_keys}
use Rattle.ov_stored.proofs.place.take_out_rows.Given as goal

abbrev pub invariant-loop-key : goal.invariant-loop-key
invariant-loop-key l = without_rows (lent_keys l.added.items) l.rows ≡ without_rows (lent_keys l.fn.added.items) l.fn.rows

abbrev pub decreases-loop-key : goal.decreases-loop-key
decreases-loop-key l = length l.added.items
