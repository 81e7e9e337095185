use Rattle.std.proofs.Common.{sym, ap, ◌∙◌}
use Rattle.std.specs.BTreeMap.{is_at}
use Rattle.std.specs.List.{list_any}
use Rattle.ov_specs.specs.schema.SchemaTypes.{name_cmp}
use Rattle.ov_locks.specs.Held.{HeldNames, names_asked, names_taken}
use Rattle.ov_locks.proofs.HeldNames.{any-names, names-found}
use Rattle.ov_locks.proofs.held.Held.has.Goals as goal

pub returns-in-Some : goal.returns-in-Some
returns-in-Some c =
    let found = names-found c.args.session c.self.inside.of.entries ∙ ap names_taken (sym c.in-Some.ensures.value) in
    c.contains.ensures ∙ any-names c.args.name.now c.in-Some.names.now.keys
    ∙ ap (list_any (is_at (name_cmp c.args.name.now))) (sym found ∙ ap (λ (h : HeldNames). names_asked c.args.session h) c.self.view_is)

pub returns-in-None : goal.returns-in-None
returns-in-None c =
    let found = names-found c.args.session c.self.inside.of.entries ∙ ap names_taken (sym c.in-None.ensures.value) in
    ap (list_any (is_at (name_cmp c.args.name.now))) (sym found ∙ ap (λ (h : HeldNames). names_asked c.args.session h) c.self.view_is)
