use Rattle.std.proofs.Common.{◌≡◌, drop}
use Rattle.serde_json.specs.View.{items_view}
use Rattle.ov_specs.specs.operations.Wait as wait
use Rattle.ov_specs.proofs.laws.Results.{after_these}
use Rattle.ov_given.proofs.told.told_rows.Given as goal

abbrev pub invariant-loop-item : goal.invariant-loop-item
invariant-loop-item g l =
    let names = g.N.Names.names l.names in
    wait.told_rows names l.table l.compared (items_view l.items) ≡ after_these l.rows.items (wait.told_rows names l.table l.compared (items_view (drop l.item-index l.items)))
