use Rattle.std.proofs.Common.{◌≡◌, drop}
use Rattle.ov_specs.specs.operations.Insert as spec
use Rattle.ov_specs.proofs.laws.RowReading.{defaults_to}
use Rattle.ov_given.proofs.row_values.with_defaults.Given as goal

abbrev pub invariant-loop-name : goal.invariant-loop-name
invariant-loop-name l = spec.with_defaults l.table l.fn.values ≡ defaults_to (drop l.name-index l.name-items) l.values
