use Rattle.std.proofs.Common.{◌+◌, [], length, refl, sym, ap, ◌∙◌}
use Rattle.std.specs.Prelude.{None}
use Rattle.ov_locks.specs.Held.{HeldNames, names_asked, names_taken, requests_in, held_of}
use Rattle.ov_locks.proofs.HeldNames.{names-found, names-become, count-out}
use Rattle.ov_locks.proofs.held.Held.take.Goals as goal

pub returns-clause-names : goal.returns-clause-names
returns-clause-names c =
    ap names_taken c.remove.ensures.value ∙ sym (names-found c.args.session c.self.inside.of.entries) ∙ ap (λ (h : HeldNames). names_asked c.args.session h) c.self.view_is

pub returns-clause-others : goal.returns-clause-others
returns-clause-others c = rw (← c.self.view_is) (λ other.
    names-become c.args.session None c.remove.result (λ _. []) c.self.inside.of.entries c.remove.new.self.entries c.remove.ensures.updates.0 c.remove.ensures.value refl other)

pub returns-clause-count : goal.returns-clause-count
returns-clause-count c = rw (← c.self.view_is) (
    ap (λ n. requests_in (held_of c.remove.new.self.entries) + n) (ap length (names-found c.args.session c.self.inside.of.entries ∙ ap names_taken (sym c.remove.ensures.value)))
    ∙ count-out c.args.session c.self.inside.of.entries c.remove.new.self.entries c.remove.result c.remove.ensures.entries c.remove.ensures.value)
