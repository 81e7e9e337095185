use Rattle.std.proofs.Common.{length, sym, ap, ◌∙◌}
use Rattle.ov_locks.specs.Held.{HeldNames, names_asked, names_taken}
use Rattle.ov_locks.proofs.HeldNames.{as_many, names-found}
use Rattle.ov_locks.proofs.held.Held.count.Goals as goal

pub returns-in-Some : goal.returns-in-Some
returns-in-Some c =
    let found = names-found c.args.session c.self.inside.of.entries ∙ ap names_taken (sym c.in-Some.ensures.value) in
    c.len.ensures.len ∙ sym (as_many c.in-Some.names.now.keys) ∙ ap length (sym found ∙ ap (λ (h : HeldNames). names_asked c.args.session h) c.self.view_is)

pub returns-in-None : goal.returns-in-None
returns-in-None c =
    let found = names-found c.args.session c.self.inside.of.entries ∙ ap names_taken (sym c.in-None.ensures.value) in
    ap length (sym found ∙ ap (λ (h : HeldNames). names_asked c.args.session h) c.self.view_is)
