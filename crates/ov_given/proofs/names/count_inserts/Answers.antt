use Rattle.std.proofs.Common.{◌≡◌, ◌+◌, ◌++◌, sym, ap, ◌∙◌, append-nil, arith}
use Rattle.std.proofs.lemmas.List.{drop_all}
use Rattle.std.specs.List.{slice_get}
use Rattle.std.specs.Prelude.{unwrap_or}
use Rattle.serde_json.specs.View.{items_view}
use Rattle.ov_specs.specs.operations.NamedUuids.{inserts_before}
use Rattle.ov_specs.specs.operations.Draws.{insert_count}
use Rattle.ov_given.proofs.Counting.{counts_from, counts-from}
use Rattle.ov_given.proofs.names.count_inserts.Goals as goal

pub returns : goal.returns
returns c = λ place.
    let operations = items_view c.args.operations.now in
    let counts = c.loop-operation.counts.items in
    let inserts = c.loop-operation.inserts in
    let rest = drop_all c.loop-operation.operation-index c.args.operations.now (omega arith) in
    let same : counts_from 0 operations ≡ counts = c.loop-operation.invariant.counts ∙ (ap (λ ds. counts ++ counts_from inserts (items_view ds)) rest ∙ append-nil counts) in
    let none : insert_count operations ≡ inserts + 0 = c.loop-operation.invariant.counted ∙ ap (λ ds. inserts + insert_count (items_view ds)) rest in
    let all : 0 + insert_count operations ≡ inserts = omega arith in
    let here : 0 + inserts_before place operations ≡ inserts_before place operations = omega arith in
    sym (λ j. unwrap_or (slice_get (same j) place) (all j)) ∙ (counts-from 0 operations place ∙ here)
