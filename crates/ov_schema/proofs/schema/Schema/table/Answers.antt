use Rattle.std.proofs.Common.{ap, sym, ◌∙◌}
use Rattle.std.specs.FinMap.{find, get, get-from_entries}
use Rattle.ov_specs.specs.schema.SchemaTypes.{name_cmp, Schema}
use Rattle.ov_schema.proofs.NamedLemmas.{name_total}
use Rattle.ov_schema.proofs.schema.Schema.table.Goals as goal

pub returns : goal.returns
returns c =
    c.find_named.ensures ∙ ap (find name_cmp c.args.name.now) c.as_slice.ensures.value ∙ sym (get-from_entries name_total c.self.inside.tables.items c.args.name.now)
    ∙ ap (λ (s : Schema). get s.tables c.args.name.now) c.self.view_is
