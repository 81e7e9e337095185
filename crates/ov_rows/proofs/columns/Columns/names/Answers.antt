use Rattle.std.proofs.Common.{sym, ap, ◌∙◌}
use Rattle.std.specs.FinMap.{keys}
use Rattle.ov_specs.specs.rows.Database.{Columns}
use Rattle.ov_rows.specs.Spread.{spread}
use Rattle.ov_rows.proofs.Listed.{keys-columns_at}
use Rattle.ov_rows.proofs.columns.Columns.names.Goals as goal

pub returns : goal.returns
returns c =
    let shape = c.self.inside.shape in
    c.names.ensures ∙ sym (keys-columns_at shape.names (spread c.self.inside.marks shape.defaults c.self.inside.own.items) c.self.invariant)
    ∙ ap (λ (columns : Columns). keys columns) c.self.view_is
