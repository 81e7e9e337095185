use Rattle.std.proofs.Common.{sym, ap, ◌∙◌}
use Rattle.std.specs.FinMap.{values}
use Rattle.ov_specs.specs.rows.Database.{Columns}
use Rattle.ov_rows.specs.Spread.{spread}
use Rattle.ov_rows.proofs.Listed.{values-columns_at}
use Rattle.ov_rows.proofs.columns.Columns.values.Goals as goal

pub returns : goal.returns
returns c =
    let shape = c.self.inside.shape in
    c.new.ensures ∙ (λ i. spread c.self.inside.marks (c.defaults.ensures i) (c.as_slice.ensures.value i))
    ∙ sym (values-columns_at shape.names (spread c.self.inside.marks shape.defaults c.self.inside.own.items) c.self.invariant)
    ∙ ap (λ (columns : Columns). values columns) c.self.view_is
