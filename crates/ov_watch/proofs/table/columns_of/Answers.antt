use Rattle.std.proofs.Common.{ℕ, List, Bool, ◌+◌, ◌++◌, ◌∷◌, [], drop, map, filter, sym, ap, ◌∙◌}
use Rattle.std.specs.List.{list_any}
use Rattle.ov_specs.specs.monitors.Requests as spec
use Rattle.ov_watch.proofs.Kept.{filter-kept, filter-passed}
use Rattle.ov_watch.proofs.table.columns_of.Goals.{then-is_asked+in_ok-from_str+in_ok-push, else-is_asked}
use Rattle.ov_watch.proofs.table.columns_of.Goals as goal

pub loop-name-preserved : goal.loop-name-preserved
loop-name-preserved c =
    let items = c.columns-name-items.result.now in
    let i = c.loop-name.name-index in
    let item = c.loop-name-item.result in
    let done = c.loop-name.names.items in
    let test : List ℕ → Bool = λ name. list_any (λ request. spec.is_one_of request.columns name) (map (λ r. r.now) c.args.requests.now) in
    let rest : List (List ℕ) = filter test (map (λ c. c.0) (drop (i + 1) items)) in
    let asked = c.is_asked.ensures ∙ ap test c.as_str.ensures in
    c.loop-name.invariant ∙ elim c.if-is_asked.branch [
      | then-is_asked+in_ok-from_str+in_ok-push w ↦
          filter-kept (λ c. c.0) test items i item c.loop-name-test.true c.loop-name-item.is done (sym asked ∙ w.if-is_asked.true)
          ∙ ap (λ xs. xs ++ rest) (sym (ap (λ v. v.items) w.names-is ∙ w.in_ok-push.ensures.items ∙ ap (λ t. done ++ t ∷ []) (w.in_ok-from_str.ensures ∙ w.as_str-then-is_asked.ensures)))
      | else-is_asked w ↦
          filter-passed (λ c. c.0) test items i item c.loop-name-test.true c.loop-name-item.is done (sym asked ∙ w.if-is_asked.false)
          ∙ ap (λ xs. xs ++ rest) (sym (ap (λ v. v.items) w.names-is))
    ]
