use Rattle.std.proofs.Common.{◌≡◌, drop}
use Rattle.serde_json.specs.View.{items_view}
use Rattle.ov_specs.specs.operations.Mutate.{mutations_read}
use Rattle.ov_specs.proofs.laws.Results.{after_these}
use Rattle.ov_given.proofs.mutated.mutations_of.Given as goal

abbrev pub invariant-loop-item : goal.invariant-loop-item
invariant-loop-item g l =
    let names = g.N.Names.names l.names in
    mutations_read names l.table (items_view l.items) ≡ after_these l.mutations.items (mutations_read names l.table (items_view (drop l.item-index l.items)))
