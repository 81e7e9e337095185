use Rattle.std.proofs.Common.{◌≡◌}
use Rattle.std.specs.List.{list_any}
use Rattle.ov_specs.specs.integrity.Committed.{is_dangling}
use Rattle.ov_conversion.proofs.pruned.dangles.Given as goal

abbrev pub invariant-loop-target : goal.invariant-loop-target
invariant-loop-target l = list_any (is_dangling l.rows) l.target-iterator.rest.items ≡ list_any (is_dangling l.rows) l.initial.target-iterator.rest.items
