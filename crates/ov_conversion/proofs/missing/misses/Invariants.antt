use Rattle.std.proofs.Common.{◌≡◌}
use Rattle.std.specs.List.{list_any}
use Rattle.ov_specs.specs.integrity.Committed.{is_missing}
use Rattle.ov_specs.specs.integrity.References.{references}
use Rattle.ov_conversion.proofs.KeyedRows.{misses_at}
use Rattle.ov_conversion.proofs.missing.misses.Given as goal

abbrev pub invariant-loop-key : goal.invariant-loop-key
invariant-loop-key l = list_any (misses_at l.schema l.rows) l.key-iterator.rest.items ≡ list_any (is_missing l.rows) (references l.schema l.rows)
