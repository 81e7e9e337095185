use Rattle.std.proofs.Common.{◌≡◌, ◌∙◌, ◌+◌, ◌++◌, ◌∷◌, [], drop, sym, ap}
use Rattle.std.specs.Prelude.{unwrap_or}
use Rattle.serde_json.specs.View.{view, items_view}
use Rattle.ov_specs.specs.operations.InsertedIds as spec
use Rattle.ov_given.proofs.Choosing.{ids_passed, ids_taken}
use Rattle.ov_given.proofs.names.inserted_ids.Goals.{then-is_insert+in-Some+in_ok-push, else-is_insert}
use Rattle.ov_given.proofs.names.inserted_ids.Goals as goal

pub loop-operation-preserved : goal.loop-operation-preserved
loop-operation-preserved c = elim c.if-is_insert.branch [
  | then-is_insert+in-Some+in_ok-push w ↦
      let operations = c.args.operations.now in
      let i = c.loop-operation.operation-index in
      let all = spec.inserted_ids c.args.draws.now (items_view operations) in
      let rest = items_view (drop (i + 1) operations) in
      let ids = c.loop-operation.ids.items in
      let id = unwrap_or (spec.chosen_id (view c.operation-item.result)) w.in-Some.draw.now in
      let first : c.loop-operation.unused.now ≡ w.in-Some.draw.now ∷ w.in-Some.others.now = w.in-Some.ensures.cases.0 in
      let pushed : c.if-is_insert.ids.items ≡ ids ++ id ∷ [] =
      ap (λ v. v.items) w.ids-is ∙ w.in_ok-push.ensures.items ∙ ap (λ x. ids ++ x ∷ []) (w.unwrap_or.ensures ∙ ap (λ o. unwrap_or o w.in-Some.draw.now) w.chosen_id.ensures) in
      let others : c.if-is_insert.unused.now ≡ w.in-Some.others.now = ap (λ u. u.now) w.unused-is in
      ids_taken operations i c.operation-item.result c.loop-operation-test.true c.operation-item.is all ids w.in-Some.draw.now w.in-Some.others.now c.loop-operation.unused.now first c.loop-operation.invariant (sym c.is_insert.ensures ∙ w.if-is_insert.true)
      ∙ ap (λ xs. xs ++ spec.inserted_ids w.in-Some.others.now rest) (sym pushed)
      ∙ ap (λ xs. c.if-is_insert.ids.items ++ spec.inserted_ids xs rest) (sym others)
  | else-is_insert w ↦
      let operations = c.args.operations.now in
      let i = c.loop-operation.operation-index in
      let all = spec.inserted_ids c.args.draws.now (items_view operations) in
      let rest = items_view (drop (i + 1) operations) in
      let ids = c.loop-operation.ids.items in
      let same : c.if-is_insert.ids.items ≡ ids = ap (λ v. v.items) w.ids-is in
      let unused : c.if-is_insert.unused.now ≡ c.loop-operation.unused.now = ap (λ u. u.now) w.unused-is in
      ids_passed operations i c.operation-item.result c.loop-operation-test.true c.operation-item.is all ids c.loop-operation.unused.now c.loop-operation.invariant (sym c.is_insert.ensures ∙ w.if-is_insert.false)
      ∙ ap (λ xs. xs ++ spec.inserted_ids c.loop-operation.unused.now rest) (sym same)
      ∙ ap (λ xs. c.if-is_insert.ids.items ++ spec.inserted_ids xs rest) (sym unused)
]
