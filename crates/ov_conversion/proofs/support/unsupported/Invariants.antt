use Rattle.std.proofs.Common.{◌≡◌, ◌++◌, filter}
use Rattle.ov_specs.specs.integrity.Kept.{unsupported}
use Rattle.ov_conversion.proofs.SupportedRows.{lacks_support}
use Rattle.ov_conversion.proofs.support.unsupported.Given as goal

abbrev pub invariant-loop-key : goal.invariant-loop-key
invariant-loop-key l = l.gone.items ++ filter (lacks_support l.schema l.held) l.key-iterator.rest.items ≡ unsupported l.schema l.rows
