use Rattle.std.proofs.Common.{◌+◌, ◌∙◌, ap, sym, drop}
use Rattle.std.specs.Prelude.{Result}
use Rattle.serde_json.specs.Data.{Data}
use Rattle.serde_json.specs.View.{items_view}
use Rattle.ov_specs.specs.operations.Conditions.{Condition, condition_error, condition_read}
use Rattle.ov_specs.specs.operations.Errors.{OpError}
use Rattle.ov_specs.specs.operations.MatchingRows as spec
use Rattle.ov_specs.specs.values.Results.{result_map_err}
use Rattle.ov_specs.proofs.laws.Results.{after_these, item_more}
use Rattle.ov_stage.proofs.conditions.conditions_of.Goals as goal

pub loop-item-preserved : goal.loop-item-preserved
loop-item-preserved g c =
    let names = g.N.Names.names c.args.names.now in
    let items = c.args.items.now in
    let i = c.loop-item.item-index in
    let table = c.args.table.now in
    let read : Data → Result Condition OpError = λ d. result_map_err condition_error (condition_read names table d) in
    c.loop-item.invariant
    ∙ item_more read items i c.item-item.result c.loop-item-test.true c.item-item.is c.loop-item.conditions.items c.in_ok-condition.condition (ap (result_map_err condition_error) c.in_ok-condition.ensures.value)
    ∙ ap (λ first. after_these first (spec.conditions_read names table (items_view (drop (i + 1) items)))) (sym c.in_default.ensures.items)
