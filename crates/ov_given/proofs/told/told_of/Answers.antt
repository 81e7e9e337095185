use Rattle.std.proofs.Common.{sym, ap, ◌∙◌}
use Rattle.std.specs.FinMap.{find, get-entries}
use Rattle.ov_specs.specs.schema.SchemaTypes.{name_cmp}
use Rattle.ov_rows.proofs.Names.{find-named}
use Rattle.ov_given.proofs.told.told_of.Goals as goal

pub returns : goal.returns
returns c =
    let name = c.args.name.now in
    c.get.ensures.value ∙ (sym (find-named name c.map.result.now.entries) ∙ (ap (find name_cmp name) c.map.ensures ∙ sym (get-entries c.args.told.now name)))
