use Rattle.std.proofs.Common.{◌+◌, ◌++◌, ◌∷◌, [], drop, filter, sym, ap, ◌∙◌}
use Rattle.ov_specs.specs.monitors.Updates as spec
use Rattle.ov_watch.proofs.Kept.{kept-next, passed-next}
use Rattle.ov_watch.proofs.row_update.modified_columns.Goals.{then-is_modified+in_ok-from_str+in_ok-push, else-is_modified}
use Rattle.ov_watch.proofs.row_update.modified_columns.Goals as goal

pub loop-name-preserved : goal.loop-name-preserved
loop-name-preserved c table id =
    let names = c.args.names.now in
    let i = c.loop-name.name-index in
    let name = c.name-item.result in
    let done = c.loop-name.modified.items in
    let test = spec.is_modified ((table, id), c.args.before.now) ((table, id), c.args.after.now) in
    let rest = filter test (drop (i + 1) names) in
    let modified = c.is_modified.ensures table id ∙ ap test c.as_str.ensures in
    c.loop-name.invariant table id ∙ elim c.if-is_modified.branch [
      | then-is_modified+in_ok-from_str+in_ok-push w ↦
          kept-next test names i name c.loop-name-test.true c.name-item.is done (sym modified ∙ w.if-is_modified.true)
          ∙ ap (λ xs. xs ++ rest) (sym (ap (λ v. v.items) w.modified-is ∙ w.in_ok-push.ensures.items ∙ ap (λ t. done ++ t ∷ []) (w.in_ok-from_str.ensures ∙ w.as_str-then-is_modified.ensures)))
      | else-is_modified w ↦
          passed-next test names i name c.loop-name-test.true c.name-item.is done (sym modified ∙ w.if-is_modified.false)
          ∙ ap (λ xs. xs ++ rest) (sym (ap (λ v. v.items) w.modified-is))
    ]
