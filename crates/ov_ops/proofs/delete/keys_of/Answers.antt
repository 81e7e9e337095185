use Rattle.std.proofs.Common.{◌++◌, map, sym, ap, ◌∙◌, append-nil, arith}
use Rattle.std.proofs.lemmas.List.{drop_all}
use Rattle.ov_rows.specs.Lending.{lent_row_of}
use Rattle.ov_specs.specs.rows.Database.{Row}
use Rattle.ov_specs.specs.rows.Lines.{LineKey}
use Rattle.ov_ops.proofs.delete.keys_of.Goals as goal

pub returns : goal.returns
returns c =
    let table = c.args.table.now in
    sym (ap (map (λ (r : LineKey × Row). r.0)) (sym (ap (map (lent_row_of table)) c.deref-row-items.ensures.value ∙ c.in_ok-rows.ensures))
    ∙ c.loop-row.invariant
    ∙ ap (λ rs. c.loop-row.keys.items ++ map (λ (r : LineKey × Row). r.0) (map (lent_row_of table) rs)) (drop_all c.loop-row.row-index c.deref-row-items.result.now (omega arith))
    ∙ append-nil c.loop-row.keys.items)
