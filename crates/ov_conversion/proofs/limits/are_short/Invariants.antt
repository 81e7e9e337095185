use Rattle.std.proofs.Common.{◌≡◌}
use Rattle.std.specs.FinMap.{entries}
use Rattle.std.specs.List.{list_any}
use Rattle.ov_specs.specs.integrity.Limits.{is_short}
use Rattle.ov_conversion.specs.Asking.{at_key}
use Rattle.ov_conversion.proofs.limits.are_short.Given as goal

abbrev pub invariant-loop-key : goal.invariant-loop-key
invariant-loop-key l = list_any (at_key (is_short l.schema) l.rows) l.key-iterator.rest.items ≡ list_any (is_short l.schema) (entries l.rows)
