use Rattle.std.proofs.Common.{[], cond, subst, sym, ap, ◌∙◌}
use Rattle.ov_specs.specs.locks.Queues.{Queues, with_queue}
use Rattle.ov_locks.specs.Queued.{queues_of, AllAreTold}
use Rattle.ov_locks.proofs.Named.{out-queues, told-out}
use Rattle.ov_locks.proofs.queues.Queues.unlock.Goals as goal
use Rattle.ov_locks.proofs.queues.Queues.unlock.Goals.{in-Some-1, in-None-1}

pub invariant_of-self : goal.invariant_of-self
invariant_of-self c = subst AllAreTold (sym c.remove.ensures.entries) (told-out c.args.name.now c.self.inside.of.entries c.self.invariant)

pub returns-then-is_last-clause-queues : goal.returns-then-is_last-clause-queues
returns-then-is_last-clause-queues c =
    let name = c.args.name.now in
    let mid = c.leave-next.new.self in
    let out =
    ap queues_of c.remove.ensures.entries ∙ out-queues name c.self.inside.of.entries ∙ ap (λ (qs : Queues). with_queue name [] qs) c.self.view_is
    ∙ sym (ap (λ b. cond b (with_queue name [] mid) mid) c.if-is_last.true) ∙ c.leave-next.ensures.queues in
    elim c.match-remove.branch [ in-Some-1 w ↦ rw w.self-is out | in-None-1 w ↦ rw w.self-is out ]
