use Rattle.std.proofs.Common.{sym, ap, ◌∙◌}
use Rattle.std.specs.FinMap.{find}
use Rattle.std.proofs.lemmas.Slice.Eq.{bytes_eq-Decides}
use Rattle.ov_specs.specs.schema.SchemaTypes.{name_cmp}
use Rattle.ov_schema.proofs.NamedLemmas.{find-at}
use Rattle.ov_schema.proofs.named.find_near.Goals as goal

pub returns-in-Some : goal.returns-in-Some
returns-in-Some g c =
    let item = c.in-Some.ensures.lookup in
    sym (ap (λ name. find name_cmp name c.args.named.now) ((bytes_eq-Decides c.args.name.now c.as_str.result.now).0 (sym c.eq.ensures ∙ c.if-eq.true) ∙ c.as_str.ensures)
    ∙ find-at c.args.named.now c.args.place c.in-Some.field-0.now c.requires.ascend item.3.0 item.1)
