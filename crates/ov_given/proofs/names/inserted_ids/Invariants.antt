use Rattle.std.proofs.Common.{◌≡◌, ◌++◌, drop}
use Rattle.serde_json.specs.View.{items_view}
use Rattle.ov_specs.specs.operations.InsertedIds as spec
use Rattle.ov_given.proofs.names.inserted_ids.Given as goal

abbrev pub invariant-loop-operation : goal.invariant-loop-operation
invariant-loop-operation l = spec.inserted_ids l.draws (items_view l.operations) ≡ l.ids.items ++ spec.inserted_ids l.unused (items_view (drop l.operation-index l.operations))
