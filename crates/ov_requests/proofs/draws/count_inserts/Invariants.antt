use Rattle.std.proofs.Common.{◌≡◌, ◌≤◌, ◌+◌, drop}
use Rattle.serde_json.specs.View.{items_view}
use Rattle.ov_specs.specs.operations.Draws.{insert_count}
use Rattle.ov_requests.proofs.draws.count_inserts.Given as goal

abbrev pub invariant-loop-operation : goal.invariant-loop-operation
invariant-loop-operation l = record {
  few : l.count ≤ l.operation-index;
  counted : insert_count (items_view l.operations) ≡ l.count + insert_count (items_view (drop l.operation-index l.operations));
}
