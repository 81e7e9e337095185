use Rattle.std.proofs.Common.{◌≡◌}
use Rattle.std.specs.List.{list_any}
use Rattle.ov_specs.specs.integrity.Committed.{is_missing}
use Rattle.ov_specs.specs.integrity.References.{references}
use Rattle.ov_integrity.specs.Missing.{misses_by}
use Rattle.ov_integrity.proofs.missing.misses.Given as goal

abbrev pub invariant-loop-key : goal.invariant-loop-key
invariant-loop-key l =
    list_any (misses_by l.schema l.stage.now l.links.strong l.changes) l.key-iterator ≡ list_any (is_missing l.stage.now) (references l.schema l.stage.now)
