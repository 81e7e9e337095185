use Rattle.std.proofs.Common.{sym, ap, ◌∙◌}
use Rattle.std.specs.FinMap.{entries}
use Rattle.ov_specs.specs.rows.Database.{Columns}
use Rattle.ov_rows.proofs.Names.{entries-columns_of}
use Rattle.ov_rows.proofs.named_values.NamedValues.map.Goals as goal

pub returns : goal.returns
returns c = sym (entries-columns_of c.self.inside.values.entries c.self.invariant) ∙ ap (λ (columns : Columns). entries columns) c.self.view_is
