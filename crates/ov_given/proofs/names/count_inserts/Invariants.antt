use Rattle.std.proofs.Common.{◌≡◌, ◌≤◌, ◌+◌, ◌++◌, drop}
use Rattle.serde_json.specs.View.{items_view}
use Rattle.ov_specs.specs.operations.Draws.{insert_count}
use Rattle.ov_given.proofs.Counting.{counts_from}
use Rattle.ov_given.proofs.names.count_inserts.Given as goal

abbrev pub invariant-loop-operation : goal.invariant-loop-operation
invariant-loop-operation l = record {
  few : l.inserts ≤ l.operation-index;
  counted : insert_count (items_view l.operations) ≡ l.inserts + insert_count (items_view (drop l.operation-index l.operations));
  counts : counts_from 0 (items_view l.operations) ≡ l.counts.items ++ counts_from l.inserts (items_view (drop l.operation-index l.operations));
}
