use Rattle.std.proofs.Common.{Some, sym, ap, ◌∙◌}
use Rattle.std.specs.Prelude.{None}
use Rattle.ov_specs.specs.locks.Queues.{Queues, owner}
use Rattle.ov_locks.proofs.Calls.{owner-found}
use Rattle.ov_locks.proofs.queues.Queues.owner.Goals as goal

pub returns-in-Some : goal.returns-in-Some
returns-in-Some c =
    ap (λ s. Some s) c.owner.ensures ∙ sym (owner-found c.args.name.now c.self.inside.of.entries (Some c.in-Some.queue.now) c.in-Some.ensures.value)
    ∙ ap (λ (qs : Queues). owner c.args.name.now qs) c.self.view_is

pub returns-in-None : goal.returns-in-None
returns-in-None c =
    sym (owner-found c.args.name.now c.self.inside.of.entries None c.in-None.ensures.value) ∙ ap (λ (qs : Queues). owner c.args.name.now qs) c.self.view_is
