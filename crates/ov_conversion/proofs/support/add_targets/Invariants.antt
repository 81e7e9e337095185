use Rattle.std.proofs.Common.{◌≡◌, ◌||◌}
use Rattle.std.specs.FinMap.{contains_key}
use Rattle.std.specs.List.{list_any}
use Rattle.ov_specs.specs.integrity.Kept.{supports}
use Rattle.ov_specs.specs.rows.Lines.{LineKey}
use Rattle.ov_conversion.proofs.SupportedRows.{referred}
use Rattle.ov_conversion.proofs.support.add_targets.Given as goal

abbrev pub invariant-loop-target : goal.invariant-loop-target
invariant-loop-target l =
    (key : LineKey) → (contains_key l.held key || list_any (supports key) (referred l.key l.target-iterator.rest.items))
    ≡ (contains_key l.fn.held key || list_any (supports key) (referred l.key l.initial.target-iterator.rest.items))
