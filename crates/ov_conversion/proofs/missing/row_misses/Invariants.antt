use Rattle.std.proofs.Common.{◌≡◌}
use Rattle.std.specs.List.{list_any}
use Rattle.ov_specs.specs.integrity.Committed.{is_missing}
use Rattle.ov_specs.specs.integrity.References.{row_references}
use Rattle.ov_conversion.proofs.KeyedRows.{target_misses}
use Rattle.ov_conversion.proofs.missing.row_misses.Given as goal

abbrev pub invariant-loop-target : goal.invariant-loop-target
invariant-loop-target l = list_any (target_misses l.rows) l.target-iterator.rest.items ≡ list_any (is_missing l.rows) (row_references l.schema (l.key, l.row))
