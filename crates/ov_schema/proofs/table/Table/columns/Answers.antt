use Rattle.std.proofs.Common.{ap, sym, ◌∙◌}
use Rattle.std.specs.FinMap.{entries}
use Rattle.ov_specs.specs.schema.SchemaTypes.{Table}
use Rattle.ov_schema.proofs.NamedLemmas.{entries-from_entries}
use Rattle.ov_schema.proofs.table.Table.columns.Goals as goal

pub returns : goal.returns
returns c =
    c.as_slice.ensures.value ∙ sym (entries-from_entries c.self.inside.columns.items c.self.invariant.0)
    ∙ ap (λ (t : Table). entries t.columns) c.self.view_is
