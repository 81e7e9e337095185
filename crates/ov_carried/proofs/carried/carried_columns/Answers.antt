use Rattle.std.proofs.Common.{map, sym, ◌∙◌}
use Rattle.std.proofs.lemmas.List.{at_drop_all}
use Rattle.std.proofs.lemmas.Result.{IfOk-weaker}
use Rattle.ov_specs.specs.operations.GivenRow.{with_values}
use Rattle.ov_specs.specs.conversion.Carried.{carried_value}
use Rattle.ov_specs.specs.rows.RowNames.{without_own_columns}
use Rattle.ov_carried.proofs.Columns.{carried_columns-is}
use Rattle.ov_carried.proofs.carried.carried_columns.Goals as goal

pub returns : goal.returns
returns c =
    let old = c.args.old.now in
    let columns = c.args.columns.now in
    let named = c.loop-name.named in
    let items = c.columns-name-items.result.now in
    IfOk-weaker c.sharing.result _ _ (λ carried h. h
    ∙ sym (at_drop_all (λ cs. with_values (map (λ c. (c.0, carried_value old columns c)) (without_own_columns cs)) named) items c.loop-name.name-index c.loop-name-test.false)
    ∙ sym c.loop-name.invariant
    ∙ (λ i. with_values (map (λ c. (c.0, carried_value old columns c)) (without_own_columns (c.columns-name-items.ensures i))) (c.new-named.ensures i))
    ∙ carried_columns-is old c.args.new.now columns) c.sharing.ensures
