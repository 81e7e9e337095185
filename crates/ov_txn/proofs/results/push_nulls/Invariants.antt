use Rattle.std.proofs.Common.{◌≡◌, drop}
use Rattle.serde_json.specs.View.{items_view}
use Rattle.ov_txn.specs.Results.{nulls_after}
use Rattle.ov_txn.proofs.results.push_nulls.Given as goal

abbrev pub invariant-loop-operation : goal.invariant-loop-operation
invariant-loop-operation l = nulls_after l.fn.results (items_view l.operations) ≡ nulls_after l.results (items_view (drop l._operation-index l.operations))
