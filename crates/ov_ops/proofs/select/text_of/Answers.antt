use Rattle.std.proofs.Common.{◌<◌, [], length, sym, ◌∙◌}
use Rattle.ov_specs.specs.operations.Select.{written_row}
use Rattle.ov_specs.specs.operations.Transaction.{and_item}
use Rattle.ov_ops.proofs.Showing.{and_next}
use Rattle.ov_ops.specs.Shown.{shown_of}
use Rattle.ov_ops.proofs.select.text_of.Goals as goal

pub loop-at-preserved : goal.loop-at-preserved
loop-at-preserved c =
    let rows = c.args.rows.now in
    let within : c.loop-at.at < length rows = c.loop-at-test.true in
    c.in_ok-push.ensures.ok
    ∙ (λ i. and_item ((c.in_ok-look_ahead.ensures ∙ c.loop-at.invariant) i) ((c.into.ensures ∙ c.in_ok-shown_tree.ensures []) i))
    ∙ sym (and_next (λ r. written_row (shown_of c.args.names.now r)) rows c.loop-at.at c.index-rows-at.result within c.index-rows-at.is)
