use Rattle.std.proofs.Common.{map, sym, ap, ◌∙◌}
use Rattle.std.proofs.lemmas.Result.{IfOk-weaker}
use Rattle.serde_json.specs.View.{items_of}
use Rattle.ov_specs.specs.operations.Select.{written_row, without_repeats}
use Rattle.ov_ops.proofs.Showing.{written-shown}
use Rattle.ov_ops.proofs.select.text_shown.Goals as goal

pub returns-then-are_apart : goal.returns-then-are_apart
returns-then-are_apart c =
    IfOk-weaker c.text_of.result _ _ (λ text h. h ∙ ap items_of (written-shown c.args.names.now c.args.rows.now ∙ ap (map written_row) (sym (c.requires c.if-are_apart.true)))) c.text_of.ensures

pub returns : goal.returns
returns c =
    IfOk-weaker c.text_once.result _ _ (λ text h. h ∙ ap (λ rows. items_of (map written_row (without_repeats rows))) (c.as_slice.ensures.value ∙ c.in_ok-shown.ensures)) c.text_once.ensures
