use Rattle.std.proofs.Common.{◌∷◌, [], codes, map, sym, ap, ◌∙◌}
use Rattle.serde_json.specs.Data.{array}
use Rattle.serde_json.specs.View.{items_of}
use Rattle.ov_specs.specs.rows.Database.{object_of}
use Rattle.ov_specs.specs.operations.Select.{without_repeats, written_row}
use Rattle.ov_ops.proofs.Showing.{shown-found}
use Rattle.ov_ops.proofs.select.select_result.Goals as goal

pub text_shown-requires : goal.text_shown-requires
text_shown-requires c are_apart =
    let names = c.args.names.now in
    let shown = shown-found names c.args.table.now c.as_slice.result.now c.in_ok-rows.rows.items _ c.as_slice.ensures.value c.in_ok-rows.ensures in
    ap without_repeats shown ∙ c.tells_apart-are_apart.ensures are_apart c.args.conditions.now ∙ sym shown

pub returns : goal.returns
returns c =
    let names = c.args.names.now in
    let shown = shown-found names c.args.table.now c.as_slice.result.now c.in_ok-rows.rows.items _ c.as_slice.ensures.value c.in_ok-rows.ensures in
    c.of_rows.ensures ∙ ap (λ items. object_of ((codes "rows", array items) ∷ [])) (c.in_ok-text.ensures ∙ ap (λ rows. items_of (map written_row (without_repeats rows))) shown)
