use Rattle.std.proofs.Common.{◌≡◌, ◌<◌, [], length, map, take, true, false, sym, ap, ◌∙◌, arith}
use Rattle.std.proofs.lemmas.List.{take_all}
use Rattle.serde_json.specs.View.{items_of}
use Rattle.ov_specs.specs.operations.Select.{written_row}
use Rattle.ov_specs.specs.rows.Database.{same_columns}
use Rattle.ov_specs.specs.operations.Transaction.{and_item}
use Rattle.ov_ops.proofs.Showing.{and_one}
use Rattle.ov_projection.proofs.Repeats.{kept_with, among, kept_is_seen, without_repeats-kept}
use Rattle.ov_projection.proofs.Showing.{was_new, was_seen, kept-new, kept-again, seen-push}
use Rattle.ov_ops.proofs.select.text_once.Goals.{then-branch+in_ok-tree+in_ok-push, else-branch}
use Rattle.ov_ops.proofs.select.text_once.Goals as goal

pub loop-row-preserved : goal.loop-row-preserved
loop-row-preserved c =
    let rows = c.args.rows.now in
    let i = c.loop-row.row-index in
    let row = c.row-item.result in
    let within : i < length rows = c.loop-row-test.true in
    let kept = kept_with same_columns [] (take i rows) in
    let seen = seen-push rows i row within c.row-item.is c.loop-row.seen.keys c.insert.new.self.keys c.loop-row.invariant.seen (λ q. c.in_ok-insert.ensures.updates.0 (record { ref_ptr = (0, 0); now = q })) in
    elim c.if-branch.branch [
      | then-branch+in_ok-tree+in_ok-push w ↦
          let fresh : among same_columns kept row ≡ false = kept_is_seen (take i rows) row ∙ sym (c.loop-row.invariant.seen row) ∙ was_new _ (sym c.in_ok-insert.ensures.added ∙ w.if-branch.true) in
          record {
            text = w.text-is ∙ w.in_ok-push.ensures.ok
                ∙ (λ j. and_item (c.loop-row.invariant.text j) ((w.into.ensures ∙ w.in_ok-tree.ensures) j))
                ∙ sym (ap (λ shown. items_of (map written_row shown)) (kept-new rows i row within c.row-item.is fresh) ∙ and_one written_row kept row);
            seen = seen;
          }
      | else-branch w ↦
          let again : among same_columns kept row ≡ true = kept_is_seen (take i rows) row ∙ sym (c.loop-row.invariant.seen row) ∙ was_seen _ (sym c.in_ok-insert.ensures.added ∙ w.if-branch.false) in
          record {
            text = w.text-is ∙ c.loop-row.invariant.text ∙ sym (ap (λ shown. items_of (map written_row shown)) (kept-again rows i row within c.row-item.is again));
            seen = seen;
          }
    ]

pub returns : goal.returns
returns c =
    let rows = c.args.rows.now in
    c.loop-row.invariant.text ∙ ap (λ shown. items_of (map written_row shown)) (ap (kept_with same_columns []) (take_all c.loop-row.row-index rows (omega arith)) ∙ sym (without_repeats-kept rows))
