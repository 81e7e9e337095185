use Rattle.std.proofs.Common.{◌≡◌, ◌<◌, length, rules, refl, ◌∙◌, map}
use Rattle.std.specs.Prelude.{Ok}
use Rattle.ov_specs.specs.operations.Mutate as spec
use Rattle.ov_specs.proofs.laws.Results.{next_more}
use Rattle.ov_specs.specs.rows.Lines.{LineKey}
use Rattle.ov_specs.specs.rows.Database.{Columns}
use Rattle.ov_rows.specs.Lending.{lent_row_of}
use Rattle.ov_ops.proofs.mutate.mutated_rows.Goals as goal

pub loop-row-preserved : goal.loop-row-preserved
loop-row-preserved c =
    let table = c.args.table.now in
    let mutations = c.args.mutations.now in
    let made : LineKey × Columns = (c.in_ok-key.key, c.in_ok-columns.columns) in
    let is : spec.mutated_row mutations (lent_row_of table c.row-item.result) ≡ Ok made = search rules in
    let within : c.loop-row.row-index < length c.deref-row-items.result.now = search rules in
    c.loop-row.invariant
    ∙ (next_more (map (lent_row_of table)) (lent_row_of table) (λ v vs. refl) (spec.mutated_row mutations) c.deref-row-items.result.now c.loop-row.row-index c.row-item.result within (search rules) c.loop-row.changed.items made is
    ∙ search rules)
