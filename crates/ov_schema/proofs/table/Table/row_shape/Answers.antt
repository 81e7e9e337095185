use Rattle.std.proofs.Common.{sym, ap, ◌∙◌}
use Rattle.ov_specs.specs.rows.RowNames.{row_names}
use Rattle.ov_specs.specs.schema.SchemaTypes.{Table}
use Rattle.ov_schema.specs.Shapes.{row_defaults, shape_in}
use Rattle.ov_schema.proofs.NamedLemmas.{entries-from_entries}
use Rattle.ov_schema.proofs.table.Table.row_shape.Goals as goal

pub returns-clause-names : goal.returns-clause-names
returns-clause-names c =
    ap (λ s. s.names) c.self.invariant.1 ∙ ap (λ es. (shape_in es).names) (sym (entries-from_entries c.self.inside.columns.items c.self.invariant.0))
    ∙ ap (λ (t : Table). row_names t) c.self.view_is

pub returns-clause-defaults : goal.returns-clause-defaults
returns-clause-defaults c =
    ap (λ s. s.defaults) c.self.invariant.1 ∙ ap (λ es. (shape_in es).defaults) (sym (entries-from_entries c.self.inside.columns.items c.self.invariant.0))
    ∙ ap (λ (t : Table). row_defaults t) c.self.view_is
