use Rattle.std.proofs.Common.{◌≡◌, ◌||◌, drop, flat_map}
use Rattle.std.specs.FinMap.{contains_key}
use Rattle.std.specs.List.{list_any}
use Rattle.ov_specs.specs.integrity.Kept.{supports}
use Rattle.ov_specs.specs.rows.Lines.{LineKey}
use Rattle.ov_conversion.specs.Support.{references_at}
use Rattle.ov_conversion.proofs.support.held_by.Given as goal

abbrev pub invariant-loop-key : goal.invariant-loop-key
invariant-loop-key l =
    (key : LineKey) → (contains_key l.held key || list_any (supports key) (flat_map (references_at l.schema l.rows) (drop l.key-index l.keys)))
    ≡ (contains_key l.initial.held key || list_any (supports key) (flat_map (references_at l.schema l.rows) l.keys))
