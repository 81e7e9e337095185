use Rattle.std.proofs.Common.{◌≡◌, drop}
use Rattle.serde_json.specs.View.{items_view}
use Rattle.ov_specs.specs.operations.MatchingRows as spec
use Rattle.ov_specs.proofs.laws.Results.{after_these}
use Rattle.ov_stage.proofs.conditions.conditions_of.Given as goal

abbrev pub invariant-loop-item : goal.invariant-loop-item
invariant-loop-item g l =
    let names = g.N.Names.names l.names in
    spec.conditions_read names l.table (items_view l.items)
    ≡ after_these l.conditions.items (spec.conditions_read names l.table (items_view (drop l.item-index l.items)))
