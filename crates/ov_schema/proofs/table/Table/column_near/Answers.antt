use Rattle.std.proofs.Common.{ap, sym, ◌∙◌}
use Rattle.std.specs.FinMap.{find, get, get-from_entries}
use Rattle.ov_specs.specs.schema.SchemaTypes.{name_cmp, Table}
use Rattle.ov_schema.proofs.NamedLemmas.{name_total}
use Rattle.ov_schema.proofs.table.Table.column_near.Goals as goal

pub returns : goal.returns
returns c =
    c.find_near.ensures ∙ ap (find name_cmp c.args.name.now) c.deref.ensures.value ∙ sym (get-from_entries name_total c.self.inside.columns.items c.args.name.now)
    ∙ ap (λ (t : Table). get t.columns c.args.name.now) c.self.view_is
