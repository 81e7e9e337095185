use Rattle.std.proofs.Common.{◌≡◌}
use Rattle.ov_specs.specs.conversion.Carried.{carried}
use Rattle.ov_carried.specs.Carrying.{carried_of}
use Rattle.ov_carried.proofs.Made.{with_made}
use Rattle.ov_carried.proofs.carried.carried_rows.Given as goal

abbrev pub invariant-loop-key : goal.invariant-loop-key
invariant-loop-key l = with_made (carried_of l.old l.new l.version l.before) l.key-iterator.rest.items l.rows ≡ carried l.old l.new l.version l.before
