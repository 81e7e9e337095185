use Rattle.std.proofs.Common.{[], cond, subst, sym, ap, ◌∙◌}
use Rattle.ov_specs.specs.locks.Queues.{Queues, with_queue, unlock, next_owner}
use Rattle.ov_locks.specs.Freeing.{owner_notified}
use Rattle.ov_locks.specs.Queued.{queues_of, AllAreTold}
use Rattle.ov_locks.specs.declared.queues.Queues.TheInside.{Inside}
use Rattle.ov_locks.proofs.Named.{Entries, told-set, told-found}
use Rattle.ov_locks.proofs.Calls.{leaves-unlocks, next-found, none-unlocks, nobody-next}
use Rattle.ov_locks.proofs.queues.Queues.leave.Goals as goal
use Rattle.ov_locks.proofs.queues.Queues.leave.Goals.{in-Some, in-None}

pub invariant_of-self : goal.invariant_of-self
invariant_of-self c =
    let name = c.args.name.now in
    let es = c.self.inside.of.entries in
    elim c.match-get_mut.branch [
      | in-Some w ↦
          let q = w.in-Some.queue.now in
          let new = w.leave_queue.new.queue in
          let wrote = c.get_mut.follows.holds new in
          subst (λ (s : Inside). AllAreTold s.of.entries) (sym w.self-inside-is)
          (subst AllAreTold (sym wrote.0) (told-set name new es c.self.invariant (w.leave_queue.ensures.told name (told-found name q es c.self.invariant w.in-Some.ensures.value)).0))
      | in-None w ↦ subst (λ (s : Inside). AllAreTold s.of.entries) (sym (w.self-inside-is ∙ ap (λ m. record { of = m }) c.get_mut.follows.holds-at-none)) c.self.invariant
    ]

pub returns-clause-told : goal.returns-clause-told
returns-clause-told c =
    let name = c.args.name.now in
    let session = c.args.session in
    let es = c.self.inside.of.entries in
    let here = ap (λ (qs : Queues). owner_notified name (next_owner name session qs)) c.self.view_is in
    elim c.match-get_mut.branch [
      | in-Some w ↦
          let q = w.in-Some.queue.now in
          (λ i. (w.result-is i).0) ∙ (w.leave_queue.ensures.told name (told-found name q es c.self.invariant w.in-Some.ensures.value)).1
          ∙ ap (owner_notified name) (sym (next-found name session es q w.in-Some.ensures.value)) ∙ here
      | in-None w ↦ (λ i. (w.result-is i).0) ∙ nobody-next name session es w.in-None.ensures.value ∙ here
    ]

pub returns-clause-queues : goal.returns-clause-queues
returns-clause-queues c =
    let name = c.args.name.now in
    let session = c.args.session in
    let es = c.self.inside.of.entries in
    let here = ap (λ (qs : Queues). unlock name session qs) c.self.view_is in
    elim c.match-get_mut.branch [
      | in-Some w ↦
          let q = w.in-Some.queue.now in
          let new = w.leave_queue.new.queue in
          let wrote = c.get_mut.follows.holds new in
          (λ i. cond ((w.result-is i).1) (with_queue name [] (queues_of (w.self-inside-is i).of.entries)) (queues_of (w.self-inside-is i).of.entries))
          ∙ ap (λ (xs : Entries). cond (w.leave_queue.result.1) (with_queue name [] (queues_of xs)) (queues_of xs)) wrote.0
          ∙ leaves-unlocks name session es q w.in-Some.ensures.value c.get_mut.ensures.ordered new w.leave_queue.result.1 w.leave_queue.ensures.left ∙ here
      | in-None w ↦
          (λ i. cond ((w.result-is i).1) (with_queue name [] (queues_of (w.self-inside-is i).of.entries)) (queues_of (w.self-inside-is i).of.entries))
          ∙ ap (λ m. with_queue name [] (queues_of m.entries)) c.get_mut.follows.holds-at-none ∙ none-unlocks name session es w.in-None.ensures.value ∙ here
    ]
